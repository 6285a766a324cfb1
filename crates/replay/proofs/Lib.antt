pub mod CallByCall

pub mod Placed
pub mod Printed

-- What is printed of a book file, line by line.
use Rattle.std.specs.Prelude.{◌≡◌, ℕ, ◌-◌, List, [], ◌++◌, length, slice_index, Some, None, Ok, Err, vec_items, codes, decimal, Option, Result, ◌==◌}
use Rattle.std.specs.List.{flat_map, range_with_len}
use Rattle.std.specs.Option.{unwrap_or}
use Rattle.std.specs.Result.{result_err}
use Rattle.book.specs.Faults.{fault_number, fault_place}
use Rattle.book.specs.declared.fault.BookFault.{BookFault}
use Rattle.book_file.specs.Files.{File, reading}
use Rattle.book_file.specs.Names.{name_of}
use Rattle.book_file.specs.Table.{Table, table_machine}
use Rattle.book_file.specs.declared.header.Kind.{Kind}
use Rattle.book_file.specs.declared.header.Kind.TheVariants.{Selecting, Shape}
use Rattle.book_report.specs.Reach.{Shown, states_line}
use Rattle.printing.specs.Lines.{fact_line, refusal_line}
use Rattle.printing.specs.declared.Report.{Report}

abbrev pub kind_line : Kind → List ℕ
kind_line Shape = codes "kind shape\n"
kind_line Selecting = codes "kind selecting\n"

-- the states whose byte is 1
abbrev pub accepting_line : List ℕ → List ℕ
accepting_line accept = states_line (codes "accepting") (λ k. slice_index accept k == 1) (length accept)

-- a tag and its name
abbrev pub name_line : ℕ → Option (List ℕ) → List ℕ
name_line tag None = []
name_line tag (Some name) = codes "tag " ++ (decimal tag ++ (codes " " ++ (name ++ codes "\n")))

-- the lines of tags 1 and on, below the number of columns
abbrev pub name_lines : ℕ → List (List ℕ) → List ℕ
name_lines columns names = flat_map (λ tag. name_line tag (name_of names tag)) (range_with_len 1 (columns - 1))

abbrev pub number_lines : Table → List ℕ
number_lines t = fact_line (codes "states") t.states ++ (fact_line (codes "tree states") t.trees ++ (fact_line (codes "tags") t.columns ++ fact_line (codes "start") t.start))

abbrev pub shape_lines : Table → List (List ℕ) → List ℕ
shape_lines t names = number_lines t ++ (accepting_line t.accept ++ name_lines t.columns names)

abbrev pub file_lines : File → List ℕ
file_lines f = kind_line f.kind ++ shape_lines f.tables f.names

abbrev pub fault_line : BookFault → List ℕ
fault_line e = refusal_line (fault_number e) (unwrap_or (fault_place e) 0)

-- The lines of a right file and, behind them, where its states lead; or the line of the refusal.
abbrev pub Described : Result File BookFault → List ℕ → Type 0
Described (Ok f) printed = Shown (table_machine f.tables) (file_lines f) printed
Described (Err e) printed = printed ≡ fault_line e

abbrev pub Reports : List ℕ → Report BookFault → Type 0
Reports bs r = Described (reading bs) (vec_items r.printed) × (r.fault ≡ result_err (reading bs))

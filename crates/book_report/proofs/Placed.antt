-- Each fault of a file has a place.
use Rattle.std.proofs.Common.{rules, ◌≡◌, ℕ, zero, suc, Bool, true, false, if◌then◌else◌, List, [], ◌∷◌, subst, IfErr, IsSome, Some, None, Ok, Err, Option, Result}
use Rattle.book.specs.Faults.{fault_place}
use Rattle.book.specs.declared.fault.BookFault.{BookFault}
use Rattle.book_file.specs.Files.{and_then, header, name_at, names_at, reading, tables_at, unless}
use Rattle.book_file.specs.declared.header.Header.{Header}

record Placed {A : Type 0} (r : Result A BookFault) : Type 0 where
  place : IfErr r (λ e. IsSome (fault_place e))

read : {A : Type 0} (a : A) → Placed (Ok a)
read a = record { place = tt }

refused : {A : Type 0} (e : BookFault) → IsSome (fault_place e) → Placed {A = A} (Err e)
refused e h = record { place = h }

placed_and_then : {A B : Type 0} (r : Result A BookFault) (f : A → Result B BookFault) → Placed r → ((a : A) → Placed (f a)) → Placed (and_then r f)
placed_and_then (Ok a) f p q = q a
placed_and_then {A} {B} (Err e) f p q = refused {A = B} e p.place

placed_if : {A : Type 0} (b : Bool) (r s : Result A BookFault) → Placed r → Placed s → Placed (if b then r else s)
placed_if true r s p q = p
placed_if false r s p q = q

placed_unless : {A : Type 0} (o : Option ℕ) (fault : ℕ → BookFault) (a : A) → ((at : ℕ) → IsSome (fault_place (fault at))) → Placed (unless o fault a)
placed_unless None fault a p = read a
placed_unless (Some at) fault a p = refused (fault at) (p at)

placed_header : (bs : List ℕ) → Placed (header bs)
placed_header bs = search (rules, placed_if, read, refused) depth 20

placed_tables : (h : Header) (at : ℕ) (bs : List ℕ) → Placed (tables_at h at bs)
placed_tables h at bs = search (rules, placed_and_then, placed_unless, read)

placed_name : (size at : ℕ) (bs : List ℕ) → Placed (name_at size at bs)
placed_name size at [] = search (rules, refused)
placed_name size at (n ∷ bs) = search (rules, placed_if, placed_unless, refused)

placed_names : (size count at : ℕ) (bs : List ℕ) → Placed (names_at size count at bs)
placed_names size zero at [] = search read
placed_names size zero at (b ∷ bs) = search (rules, refused)
placed_names size (suc count) at bs = search (placed_and_then, placed_name, placed_names size count, read)

placed_reading : (bs : List ℕ) → Placed (reading bs)
placed_reading bs = search (rules, placed_and_then, placed_if, placed_header, placed_tables, placed_names, read, refused)

pub fault_placed : (bs : List ℕ) (e : BookFault) → reading bs ≡ Err e → IsSome (fault_place e)
fault_placed bs e r = subst (λ x. IfErr x (λ f. IsSome (fault_place f))) r (placed_reading bs).place

-- The level shape: its meaning, its rules of range, and its law.
use Rattle.std.specs.Prelude.{ℕ, ◌+◌, ◌≤◌, Bool, if◌then◌else◌, ◌&&◌, List, Decides, ◌==◌, nat_le, nat_lt}
use Rattle.std.proofs.Common.{arith}
use Rattle.std.proofs.lemmas.Bool.Decides.{nat_tests}
use Rattle.book.specs.Limits.{tags, most_depth}
use Rattle.book.specs.declared.event.Event.{Event}
use Rattle.book.specs.Catalogue.{Catalogue, opened}
use Rattle.book.specs.Machines.{Machine, Lawful, accepted}
use Rattle.kinds.specs.Places.{depth_of}

-- Meaning ---------------------------------------------------------------------------------------------------------

-- 1 to 32
abbrev pub depth_right : ℕ → Bool
depth_right d = nat_le 1 d && nat_le d most_depth

-- A state up to d is the number of open items; d + 1 says that an item lies deeper than d, and stays.
abbrev pub level_machine : ℕ → Machine
level_machine d =
    record {
      width = d + 2;
      start = 0;
      enter = λ s t. if nat_lt s (d + 2) && nat_lt t tags then (if nat_lt s (d + 1) then s + 1 else d + 1) else 0;
      back = λ s q t. if nat_lt s (d + 2) && (nat_lt q (d + 2) && nat_lt t tags) then (if q == d + 1 then d + 1 else s) else 0;
      accepts = λ s. nat_le s d;
    }

-- Rules of range --------------------------------------------------------------------------------------------------

-- The proofs stand here and not in proofs/, since the impls name them for the laws of their traits, which may name
-- nothing of their own crate outside specs/.

pub level_lawful : (d : ℕ) → d ≤ most_depth → Lawful (level_machine d)
level_lawful d h =
    record {
      narrow = omega arith;
      starts = omega arith;
      enters = λ s t. grind (arith, nat_tests);
      backs = λ s q t. grind (arith, nat_tests);
      no_enter = λ s t o. grind (arith, nat_tests);
      no_back = λ s q t o. grind (arith, nat_tests);
      no_accept = λ s l. grind (arith, nat_tests);
    }

-- Law -------------------------------------------------------------------------------------------------------------

-- a catalogue is accepted just if no item lies deeper than d
abbrev pub LevelAccepts : ℕ → Type 0
LevelAccepts d =
    (c : List Event) → Catalogue c
    → Decides (accepted (level_machine d) c) ((i : ℕ) → 1 ≤ i → i ≤ opened c → depth_of i c ≤ d)

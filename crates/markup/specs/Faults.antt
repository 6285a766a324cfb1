-- The number, the place and the text of each fault of a catalogue text.
use Rattle.std.specs.Prelude.{ℕ, List, ◌++◌, codes, decimal}
use Rattle.markup.specs.Reading.{Ending, failed}
use Rattle.markup.specs.declared.fault.ReaderFault.{ReaderFault}
use Rattle.markup.specs.declared.fault.ReaderFault.TheVariants.{CutOff, Byte, OtherForm, LongName, Reference}

abbrev pub fault_number : ReaderFault → ℕ
fault_number (CutOff n) = 21
fault_number (Byte p) = 22
fault_number (OtherForm p) = 23
fault_number (LongName p) = 24
fault_number (Reference p) = 25

-- a text that is cut off is refused at its length
abbrev pub fault_place : ReaderFault → ℕ
fault_place (CutOff n) = n
fault_place (Byte p) = p
fault_place (OtherForm p) = p
fault_place (LongName p) = p
fault_place (Reference p) = p

-- the ending of a reading that the fault is
abbrev pub fault_ending : ReaderFault → Ending
fault_ending f = failed (fault_number f) (fault_place f)

abbrev pub fault_text : ReaderFault → List ℕ
fault_text f = codes "refused " ++ (decimal (fault_number f) ++ (codes " at " ++ decimal (fault_place f)))

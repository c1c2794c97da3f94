-- Faults of stores.
--   cause_text c, fault_text f   what a cause and a fault say
--   cause_of f, cause_in r       the cause of a word's fault, and what is wrong with a word that was read, if anything
--   line_fault i c               a cause that lies in line i
--   whole_fault c                a cause that lies in no one line
--   boundary_fault b             the fault of a split's boundary above 8, if any
--   check_result o               what a check answers that finds the fault or cause o, if any
--   refusal_of f                 what a fault is refused with
--   RefusedAs13 r                what the check r found, if anything, is refused with 13
use Rattle.std.specs.Prelude.{◌≡◌, ℕ, cond, List, ◌++◌, Some, None, Ok, Err, IfErr, codes, Option, Result, nat_le}
use Rattle.std.specs.Fmt.{decimal}
use Rattle.std.specs.Option.{option_map, option_map_or}
use Rattle.std.specs.Result.{result_err}
use Rattle.wire.specs.declared.word.WordFault.{WordFault}
use Rattle.wire.specs.declared.word.WordFault.TheVariants as word
use Rattle.base.specs.declared.refusal.Refusal.{Refusal}
use Rattle.base.specs.Refusals.{number_of, refusal}
use Rattle.image.specs.declared.fault.Cause.{Cause}
use Rattle.image.specs.declared.fault.Cause.TheVariants.{
  PartLine,
  TooMany,
  GroundAbove7,
  WrongKind,
  StrayBits,
  KeysNotRising,
  BoundaryAbove8,
}
use Rattle.image.specs.declared.fault.Fault.{Fault}

-- What each cause says.
abbrev pub cause_text : Cause → List ℕ
cause_text PartLine = codes "the words end within a line"
cause_text TooMany = codes "there are too many lines"
cause_text GroundAbove7 = codes "the ground is above 7"
cause_text WrongKind = codes "a word is of a wrong kind"
cause_text StrayBits = codes "a word has stray bits"
cause_text KeysNotRising = codes "the keys do not rise"
cause_text BoundaryAbove8 = codes "the boundary is above 8"

-- Where a cause lies, if in one line.
abbrev pub line_text : Option ℕ → List ℕ
line_text None = codes ""
line_text (Some i) = codes ", line " ++ decimal i ++ codes " (the first is 0)"

-- What a fault says.
abbrev pub fault_text : Fault → List ℕ
fault_text f = cause_text f.cause ++ line_text f.line

-- A word's fault is the store's.
abbrev pub cause_of : WordFault → Cause
cause_of word.WrongKind = WrongKind
cause_of word.StrayBits = StrayBits

-- What is wrong with a word that was read, if anything.
abbrev pub cause_in : {A : Type 0} → Result A WordFault → Option Cause
cause_in r = option_map cause_of (result_err r)

-- A cause that lies in line i.
abbrev pub line_fault : ℕ → Cause → Fault
line_fault i c = record { cause = c; line = Some i }

-- A cause that lies in no one line.
abbrev pub whole_fault : Cause → Fault
whole_fault c = record { cause = c; line = None }

-- Every fault is refused alike.
abbrev pub refusal_of : Fault → Refusal
refusal_of f = refusal 13

-- A boundary lies from 0 to 8.
abbrev pub boundary_fault : ℕ → Option Fault
boundary_fault b = cond (nat_le b 8) None (Some (whole_fault BoundaryAbove8))

-- What a check answers: nothing where it finds nothing, and else what it found first.
abbrev pub check_result : {E : Type 0} → Option E → Result Unit E
check_result o = option_map_or Err o (Ok tt)

-- What is found by a check is refused with 13.
abbrev pub RefusedAs13 : Result Unit Fault → Type 0
RefusedAs13 r = IfErr r (λ f. number_of (refusal_of f) ≡ 13)

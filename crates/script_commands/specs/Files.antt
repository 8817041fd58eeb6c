-- The contents that words spell.
-- Source: this project's own.
use Rattle.std.proofs.Common.{◌≡◌, ◌⊎◌}
use Rattle.script_commands.specs.Prelude.{Content, false, File, is_file, is_target, IsBadText, Link, List, Spells, true, ℕ}
use Rattle.script_commands.specs.declared.commands.{Fault.{Fault, TheVariants.{Memory, Refused}}, LineRefusal.TheVariants.{BadLink, BadText, FileTooLarge}}

-- the content is the file that a text spells, which isn't too large
pub record IsFileOf (text : List ℕ) (content : Content) : Type 0 where
  pub bytes : List ℕ
  pub spelled : Spells text bytes
  pub fits : is_file bytes ≡ true
  pub content_is : content ≡ File bytes

-- why a text isn't a file: it spells no bytes, it spells too many, or memory ran out
pub data IsNoFile (text : List ℕ) (fault : Fault) : Type 0 where
  without_memory : fault ≡ Memory → IsNoFile text fault
  bad_text : IsBadText text → fault ≡ Refused BadText → IsNoFile text fault
  too_large : (bytes : List ℕ) → Spells text bytes → is_file bytes ≡ false → fault ≡ Refused FileTooLarge → IsNoFile text fault

-- the content is the link to a valid target
pub record IsLinkTo (target : List ℕ) (content : Content) : Type 0 where
  pub fits : is_target target ≡ true
  pub content_is : content ≡ Link target

abbrev pub IsNoLink : List ℕ → Fault → Type 0
IsNoLink target fault = (fault ≡ Memory) ⊎ ((is_target target ≡ false) × (fault ≡ Refused BadLink))

-- Bytes that can't become a file.
use Rattle.std.proofs.Common.{◌≡◌, ◌⊎◌}
use Rattle.script_commands.proofs.Prelude.{Bool, cond, Content, ContentFault, Err, false, fault_of_content, File, file_of, inl, inr, is_file, IsNoFile, List, Ok, refl, Result, Spells, too_large, true, without_memory, ℕ}
use Rattle.edit_sums.specs.declared.contents.ContentFault.TheVariants as content

-- bytes that are refused as too many are too many
too_many : (bytes : List ℕ) → Err content.FileTooLarge ≡ file_of bytes → is_file bytes ≡ false
too_many bytes e = by (is_file bytes) e
  where
    by : (b : Bool) → ◌≡◌ {A = Result Content ContentFault} (Err content.FileTooLarge) (cond b (Ok (File bytes)) (Err content.FileTooLarge)) → b ≡ false
    by true e = cc (e)
    by false e = refl

-- no bytes are refused as a link
no_link : (bytes : List ℕ) → Err content.BadLink ≡ file_of bytes → ⊥
no_link bytes e = by (is_file bytes) e
  where
    by : (b : Bool) → ◌≡◌ {A = Result Content ContentFault} (Err content.BadLink) (cond b (Ok (File bytes)) (Err content.FileTooLarge)) → ⊥
    by true e = cc (e)
    by false e = cc (e)

abbrev pub IsRefusedAs : List ℕ → ContentFault → Type 0
IsRefusedAs bytes f = (◌≡◌ {A = Result Content ContentFault} (Err f) (Err content.Memory)) ⊎ (Err f ≡ file_of bytes)

pub file_refused : (text bytes : List ℕ) → Spells text bytes → (f : ContentFault) → IsRefusedAs bytes f → IsNoFile text (fault_of_content f)
file_refused text bytes spelled content.FileTooLarge (inl e) = cc (e)
file_refused text bytes spelled content.FileTooLarge (inr e) = too_large bytes spelled (too_many bytes e) refl
file_refused text bytes spelled content.BadLink (inl e) = cc (e)
file_refused text bytes spelled content.BadLink (inr e) = absurd (no_link bytes e)
file_refused text bytes spelled content.Memory e = without_memory refl

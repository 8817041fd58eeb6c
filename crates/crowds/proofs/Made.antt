-- What is made of a valid text.
use Rattle.std.proofs.Common.{if◌then◌else◌, ◌≡◌, ◌⊎◌}
use Rattle.crowds.proofs.Prelude.{Bool, Content, Err, false, File, file_of, inl, inr, is_file, List, Ok, path_of, PathParts, true, ℕ}
use Rattle.load_path.specs.declared.paths.PathFault.TheVariants as path
use Rattle.edit_sums.specs.declared.contents.ContentFault.TheVariants as content

pub file_is : (made : Content) (bytes : List ℕ) → ((Ok made ≡ Err content.Memory) ⊎ (Ok made ≡ file_of bytes)) → made ≡ File bytes
file_is made bytes (inl e) = cc
file_is made bytes (inr e) = by (is_file bytes) e
  where
    by : (b : Bool) → Ok made ≡ (if b then Ok (File bytes) else Err content.FileTooLarge) → made ≡ File bytes
    by true e = cc
    by false e = cc

pub path_is : (made parts : PathParts) (text : List ℕ) → ((Ok made ≡ Err path.Memory) ⊎ (Ok made ≡ path_of text)) → path_of text ≡ Ok parts → made ≡ parts
path_is made parts text (inl e) is = cc
path_is made parts text (inr e) is = cc

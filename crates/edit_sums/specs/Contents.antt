-- How contents are made of bytes, and their order.
-- Source: this project's own.
use Rattle.std.proofs.Common.{if◌then◌else◌}
use Rattle.edit_sums.specs.Prelude.{[], Err, List, nat_cmp, Ok, Ordering, ordering_then, Result, slice_cmp, ℕ}
use Rattle.edit_sums.specs.{declared.contents.{Content.{Content, TheVariants.{File, Gone, Link}}, ContentFault.{ContentFault, TheVariants.{BadLink, FileTooLarge}}}, Limits.{is_file, is_target}}

-- a file of these bytes, or the fault
abbrev pub file_of : List ℕ → Result Content ContentFault
file_of bytes = if is_file bytes then Ok (File bytes) else Err FileTooLarge

-- a link to this target, or the fault
abbrev pub link_of : List ℕ → Result Content ContentFault
link_of target = if is_target target then Ok (Link target) else Err BadLink

-- the rank of its kind in the order: removal, link, file
abbrev pub sort_of : Content → ℕ
sort_of Gone = 0
sort_of (Link target) = 1
sort_of (File bytes) = 2

abbrev pub bytes_of : Content → List ℕ
bytes_of Gone = []
bytes_of (Link target) = target
bytes_of (File bytes) = bytes

-- by kind, then by bytes
abbrev pub content_cmp : Content → Content → Ordering
content_cmp x y = ordering_then (nat_cmp (sort_of x) (sort_of y)) (slice_cmp nat_cmp (bytes_of x) (bytes_of y))

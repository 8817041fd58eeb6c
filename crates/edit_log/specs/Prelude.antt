-- What the definitions use of std and of the crates below.
pub use Rattle.edit_sums.specs.{CounterLaws.{counter_among}, declared.{contents.Content.{Content}, entries.Edit.{Edit}}, Prelude.{IsAmong, PlaceParts, Version}, Sums.{high_among}}
pub use Rattle.list_laws.specs.Members.{IsAmong-append_cases, IsAmong-append_left, IsAmong-append_right}
pub use Rattle.std.{proofs.{Common.{[], ap, append-nil, append_assoc, arith, Bool, false, inl, inr, length, List, map, None, Option, refl, Some, subst, sym, true, ℕ, ◌∙◌, ⊎_elim}, lemmas.List.Sorted.{IsPermutation-refl}}, specs.Prelude.{IsPermutation}}

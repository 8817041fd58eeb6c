-- What the definitions use of std and of the crates below.
pub use Rattle.edit_sums.specs.{declared.entries.Edit.{Edit}, SumLaws.{sum_of-append, sum_of-same_edits}, Sums.{sum_of}}
pub use Rattle.list_laws.specs.Members.{IsAmong, IsAmong-append_cases, IsAmong-append_left, IsAmong-append_right}
pub use Rattle.edit_log.specs.{declared.happenings.Happening.{Happening, TheVariants.{Commit, Put, Restart, Take}}, LifeLaws.{asked}, Lives.{after_one, all_of, AsksFor, IsAskedFor, Lived, own_edit}}
pub use Rattle.world_law.specs.{declared.events.Event.{Event}, Worlds.{AreSameEdits, blank, changed_at, EventWorld, happens, Node, puts_of, taken}}
pub use Rattle.std.proofs.Common.{[], ap, append-nil, append_assoc, arith, Bool, cond, false, inl, inr, length, List, map, nat_lt, None, Option, refl, replicate, slice_get, Some, subst, suc, sym, true, zero, ℕ, ◌∙◌, ⊎_elim}

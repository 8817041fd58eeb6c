-- What the proofs use of std, of the crates below and of the definitions.
pub use Rattle.node_histories.specs.{Books.{Adds, IsKept, TurnNow}, declared.events.HistoryEvent.{HistoryEvent, TheVariants.{Absorbed, Edited, Opening}}, Histories.{all_edits, counter_of, IsLegal, IsNext, opening_of, replica_of, store_of, takes_in}, HistoryLaws.{high_of-store_of, legal_above, legal_apart, legal_filled, legal_opening, legal_own, legal_snoc, next_edit, opening_of-snoc, replica_of-opening, store_of-absorbed, store_of-edited, takes_in-snoc}, HistoryWorldLaws.{worlds_hold}, PrefixLaws.{prefix_length, prefix_shorter, prefix_whole}, Prelude.{changed_places, Edit, EntryMap, high_of, join, next_version, Replicated, with_edit}}
pub use Rattle.std.proofs.{Common.{[], ap, append-nil, arith, Bool, false, inl, length, List, None, refl, rules, subst, sym, true, ℕ, ◌∙◌}, lemmas.Bool.Decides.{nat_tests}}
pub use Rattle.world_law.specs.Prelude.{Version}

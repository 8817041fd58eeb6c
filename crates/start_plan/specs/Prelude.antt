-- What the definitions use of std and of the crates below.
pub use Rattle.fragment_choice.specs.declared.choices.Cause.{Cause}
pub use Rattle.unit_values.specs.BuiltIn.{is_perpetual}
pub use Rattle.inverse_deps.specs.{EdgeLaws.{edges_come_from_names, one_list_of_edges}, Edges.{AreEdges, IsEdge}}
pub use Rattle.name_closure.specs.{ClosureLaws.{reached_least}, ListedLaws.{named_by}}
pub use Rattle.parallel_load.specs.Prelude.{is_same, shape, Template}
pub use Rattle.plan_choice.specs.{AnswerLaws.{files_keep, KeepsFilePromises, KeepsPromises, one_refusal, one_start, one_stop, plan_keeps, plan_unrefused}, Answers.{IsPlan, IsRefusal}, Case.{Case}, declared.answers.PlanRefusal.{PlanRefusal as Why, TheVariants.{Conflict as conflict, Cycle as cycle, ManualStart as manual_start, Need as need_fault, Requisite as requisite, Target as target_fault}}, NamedCases.{IsNamedCase}, SetLaws.{SparesItself}, Sets.{IsOutside, IsStoppedByConflict, TakesAlong}}
pub use Rattle.profiles.specs.declared.profiles.Profile.{Profile, TheVariants.{Files, Manager}}
pub use Rattle.setting_rules.specs.declared.kinds.DepKind.TheVariants.{After, Conflicts, PartOf, Upholds}
pub use Rattle.std.proofs.lemmas.Bool.{true≢false}
pub use Rattle.std.{proofs.Common.{[], All, ap, Bool, false, inl, inr, IsTrue, length, List, map, None, Option, refl, Some, subst, sym, true, unwrap_or, ℕ, ◌∙◌}, specs.{Cmp.Lexicographic.{nat_list_cmp_total}, List.{flat_map, list_any}, Ordering.{nat_cmp}, Prelude.{slice_index_or}}}
pub use Rattle.unit_graph.specs.{Graphs.{IsKnown, status_in}, Prelude.{BindsTo, count_of, DepKind, EdgeMap, HostViewMap, IsAmong, IsLoad, IsUnitIn, LoadedUnit, LoadMap, main_in, Name, name_at, name_cmp, name_cmp-IsAntisymmetric, names_in, Requires, Requisite, Status, unit_in, Wants}}
pub use Rattle.unit_loads.specs.{declared.units.Status.TheVariants.{Bad, Loaded, Masked, NotFound}, Units.{is_loaded_by}}

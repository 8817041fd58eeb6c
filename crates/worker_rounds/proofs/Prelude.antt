-- What the proofs use of std, of the crates below and of the definitions.
pub use Rattle.name_closure.specs.{Loading.{AreLoaded, AreLoads, AreOthers}, LoadingLaws.{loads_append, loads_none, others_append, others_none}}
pub use Rattle.std.{proofs.{Common.{[], add-one, All, ap, append-nil, append_assoc, arith, drop, get_or, IfOk, length, List, map, min, Ok, refl, Result, rules, subst, suc, sym, take, vec_len, zero, ℕ, ◌∙◌}, lemmas.{Grind.{flat_map-append}, List.{drop-drop, Elements.{All-append, All-cons, All-drop, All-head, All-map, All-nil, All-tail, All-take}, length-drop, length-map, length-take-le, map-append, take-append-drop}, Result.{IfOk-weaker}}, Math.Nat.{div-add-mod, div-le_self, le-div_iff_mul-le, le-mul_of_pos_right, lt-div-mul-add, mul-div-le, suc-mul, zero-mul}}, specs.{Global.{Vec}, List.{flat_map, range_with_len}, Map.{keys_of}}}
pub use Rattle.worker_rounds.specs.{declared.chunks.Chunk.{Chunk}, Joined.{IsJoined}}

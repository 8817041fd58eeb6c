-- The effect of one pair's edit on a map that a pass holds in two parts: the pairs already passed, and those still
-- ahead.
use Rattle.std.proofs.Common.{◌++◌, ◌∷◌, ◌≡◌}
use Rattle.join_maps.proofs.Prelude.{[], AreBelow, get_or, IsAt, IsBetween, IsGap, IsJoin, IsLeast, IsMap, IsPartialJoin, IsTotalOrder, length, List, MapBelow, Ordering, set, subst, sym, ◌∙◌}
use Rattle.join_maps.proofs.After.{at_after, gap_after, get_after, insert_after, set_after}
use Rattle.join_law.specs.EditLaws as whole

module _ {K V : Type 0} (R : K → K → Ordering) (o : IsTotalOrder R) (valid : V → Type 0) (below : V → V → Type 0) (itself : (x : V) → below x x) (chain : (x y z : V) → below x y → below y z → below x z) where
  module _ (k : K) (passed ahead : List (K × V)) (m : IsMap R below valid (passed ++ ahead)) (b : AreBelow R k passed) where
    -- the first pair ahead has the key
    module _ (e : K × V) (a : IsAt R k ahead 0) (here : e ≡ get_or ahead 0 e) where
      at : IsAt R k (passed ++ ahead) (length passed)
      at = at_after R o k passed ahead b a

      there : e ≡ get_or (passed ++ ahead) (length passed) e
      there = here ∙ sym (get_after passed ahead e)

      in_parts : (P : List (K × V) → Type 0) (new : V) → P (set (passed ++ ahead) (length passed) (e.0, new)) → P (passed ++ set ahead 0 (e.0, new))
      in_parts P new = subst P (set_after passed ahead (e.0, new))

      pub joined_is_map : (v new : V) → valid new → IsJoin below e.1 v new → IsMap R below valid (passed ++ set ahead 0 (e.0, new))
      joined_is_map v new ok j = in_parts (IsMap R below valid) new (whole.joined_is_map R o valid below itself chain k (passed ++ ahead) (length passed) m e at there v new ok j)

      pub joined_is_join : (v new : V) → IsJoin below e.1 v new → IsJoin (MapBelow R below) (passed ++ ahead) ((k, v) ∷ []) (passed ++ set ahead 0 (e.0, new))
      joined_is_join v new j =
          in_parts (IsJoin (MapBelow R below) (passed ++ ahead) ((k, v) ∷ [])) new (whole.joined_is_join R o valid below itself chain k (passed ++ ahead) (length passed) m e at there v new j)

      pub partly_is_map : (v new rest : V) → valid new → IsPartialJoin below e.1 v new rest → IsMap R below valid (passed ++ set ahead 0 (e.0, new))
      partly_is_map v new rest ok j = in_parts (IsMap R below valid) new (whole.partly_is_map R o valid below itself chain k (passed ++ ahead) (length passed) m e at there v new rest ok j)

      pub partly_is_join : (v new rest : V) → IsPartialJoin below e.1 v new rest → IsPartialJoin (MapBelow R below) (passed ++ ahead) ((k, v) ∷ []) (passed ++ set ahead 0 (e.0, new)) ((k, rest) ∷ [])
      partly_is_join v new rest j =
          in_parts (λ now. IsPartialJoin (MapBelow R below) (passed ++ ahead) ((k, v) ∷ []) now ((k, rest) ∷ [])) new (whole.partly_is_join R o valid below itself chain k (passed ++ ahead) (length passed) m e at there v new rest j)

      pub between_is_map : (v new : V) → valid new → IsBetween below e.1 v new → IsMap R below valid (passed ++ set ahead 0 (e.0, new))
      between_is_map v new ok j = in_parts (IsMap R below valid) new (whole.between_is_map R o valid below itself chain k (passed ++ ahead) (length passed) m e at there v new ok j)

      pub between_is_between : (v new : V) → IsBetween below e.1 v new → IsBetween (MapBelow R below) (passed ++ ahead) ((k, v) ∷ []) (passed ++ set ahead 0 (e.0, new))
      between_is_between v new j =
          in_parts (IsBetween (MapBelow R below) (passed ++ ahead) ((k, v) ∷ [])) new (whole.between_is_between R o valid below itself chain k (passed ++ ahead) (length passed) m e at there v new j)

    -- the key is new
    module _ (v : V) (n : ¬ IsLeast below v) (g : IsGap R k ahead 0) where
      gap : IsGap R k (passed ++ ahead) (length passed)
      gap = gap_after R o k passed ahead b g

      pub added_is_map : valid v → IsMap R below valid ((passed ++ (k, v) ∷ []) ++ ahead)
      added_is_map ok = subst (IsMap R below valid) (insert_after passed ahead (k, v)) (whole.inserted_is_map R o valid below itself chain k (passed ++ ahead) (length passed) m v n gap ok)

      pub added_is_join : IsJoin (MapBelow R below) (passed ++ ahead) ((k, v) ∷ []) ((passed ++ (k, v) ∷ []) ++ ahead)
      added_is_join =
          subst (IsJoin (MapBelow R below) (passed ++ ahead) ((k, v) ∷ [])) (insert_after passed ahead (k, v)) (whole.inserted_is_join R o valid below itself chain k (passed ++ ahead) (length passed) m v n gap)

-- How the names of a request are read.
use Rattle.std.proofs.Common.{◌≡◌}
use Rattle.script_answers.proofs.Prelude.{ap, Err, Fault, fault_of_name, inl, inr, IsFaultOf, IsNameFault, List, Name, name_of, NameFault, names_in, Ok, refl, request_of, request_with, Result, Viewer, ℕ, ◌∙◌}
use Rattle.unit_name.specs.declared.names.NameFault.TheVariants as name

-- a fault of a word is a fault of its name
pub name_fault : (word : List ℕ) (fault : NameFault) → IsFaultOf word fault → IsNameFault (name_of word) (fault_of_name fault)
name_fault word name.Length e = inr (name.Length, e, refl)
name_fault word name.Kind e = inr (name.Kind, e, refl)
name_fault word name.EmptyPrefix e = inr (name.EmptyPrefix, e, refl)
name_fault word (name.BadByte place) e = inr (name.BadByte place, e, refl)
name_fault word name.Memory e = inl refl

module _ (viewer : Viewer) (unit : List ℕ) (running : List (List ℕ)) where
  pub request_made : (target : Name) (names : List Name) → name_of unit ≡ Ok target → names_in running ≡ Ok names
      → request_of viewer unit running ≡ Ok (record { viewer = viewer; target = target; running = names })
  request_made target names e also =
      ap (λ (r : Result Name NameFault). request_with viewer r (names_in running)) e ∙ ap (request_with viewer (Ok target)) also

  pub target_refused : (fault : Fault) → IsNameFault (name_of unit) fault → IsNameFault (request_of viewer unit running) fault
  target_refused fault (inl e) = inl e
  target_refused fault (inr why) = inr (why.0, by (names_in running) (why.1), why.2)
    where
      by : (r : Result (List Name) NameFault) → name_of unit ≡ Err why.0 → request_with viewer (name_of unit) r ≡ Err why.0
      by r e = ap (λ (n : Result Name NameFault). request_with viewer n r) e

  pub running_refused : (target : Name) (fault : Fault) → name_of unit ≡ Ok target → IsNameFault (names_in running) fault → IsNameFault (request_of viewer unit running) fault
  running_refused target fault e (inl m) = inl m
  running_refused target fault e (inr why) = inr (
    why.0,
    ap (λ (r : Result Name NameFault). request_with viewer r (names_in running)) e ∙ ap (request_with viewer (Ok target)) why.1,
    why.2,
  )

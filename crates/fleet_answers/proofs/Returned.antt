-- A snapshot of all names of a question answers it as its store does.
use Rattle.std.proofs.Common.{◌∷◌, ◌≡◌}
use Rattle.fleet_answers.proofs.Prelude.{[], Answer, AreKnown, asked, EntryMap, Err, false, Global, HasTemplate, viewer_asked, host_view_of, IfOk, IfSome, inl, inr, is_ok, IsAnswer, IsKnown, IsOfGraph, IsReturned, IsSnapshot, List, LoadMap, MatchOption, MatchResult, Name, names_asked, Ok, one_viewer, Option, own_are_known, Question, refl, Request, Result, Some, subst, sym, true, Vec, Viewer, ◌∙◌}

-- names that are known are those of the graph
pub of_graph : (load : LoadMap) (request : Request) → AreKnown load (request.target ∷ request.running) → IsOfGraph load request
of_graph load request known n among = inr (known n among)

-- a list of one name has that name
pub known_one : (load : LoadMap) (n : Name) → AreKnown load (n ∷ []) → IsKnown load n
known_one load n known = known n (inl refl)

-- what holds of a value that is there
of_some : {X : Type 0} (P : X → Type 0) (o : Option X) (x : X) → o ≡ Some x → IfSome o P → P x
of_some P o x e h = subst (λ (p : Option _). IfSome p P) e h

of_there : {X : Type 0} (A B : Type 0) (o : Option X) (x : X) → o ≡ Some x → MatchOption o A (λ _. B) → B
of_there A B o x e h = subst (λ (p : Option _). MatchOption p A (λ _. B)) e h

-- `map_err` leaves a value as it is, and so what holds of it
pub of_mapped : {T E F : Type 0} (P Q : T → Type 0) (R : E → Type 0) (r : Result T E) (s : Result T F) → ((x : T) → P x → Q x)
    → MatchResult r (λ x. s ≡ Ok x) R → is_ok s ≡ is_ok r → IfOk r P → IfOk s Q
of_mapped P Q R (Ok x) s weaker same alike p = subst (λ (t : Result _ _). IfOk t Q) (sym same) (weaker x p)
of_mapped P Q R (Err e) (Ok x) weaker same alike p = (let f : true ≡ false = alike in cc (f))
of_mapped P Q R (Err e) (Err f) weaker same alike p = tt

-- a snapshot of all names that are asked for answers as the store does
module _ (s : EntryMap) (extra : List Name) (question : Question) (found : Option (Vec Name Global)) (names : Vec Name Global) (is : found ≡ Some names)
    (all : IfSome found (λ (ns : Vec Name Global). ns.items ≡ asked extra question)) (borrowed : List Name) (same : borrowed ≡ names.items)
    (viewer : Viewer) (viewer_is : viewer ≡ viewer_asked question) (load : LoadMap) (made : IsSnapshot (host_view_of s viewer) borrowed load) where
  all_asked : IsSnapshot (host_view_of s (viewer_asked question)) (asked extra question) load
  all_asked =
      subst (λ (h : Viewer). IsSnapshot (host_view_of s h) (asked extra question) load) viewer_is
      (subst (λ (ns : List Name). IsSnapshot (host_view_of s viewer) ns load) (same ∙ of_some (λ (ns : Vec Name Global). ns.items ≡ asked extra question) found names is all) made)

  pub own_known : AreKnown load (names_asked question)
  own_known = own_are_known (host_view_of s (viewer_asked question)) extra question load all_asked.is_load

  -- it is for who asks the question
  pub own_viewer : load.viewer ≡ viewer_asked question
  own_viewer = all_asked.is_load.viewer_is ∙ one_viewer s (viewer_asked question)

  pub answers : MatchOption found (HasTemplate (asked extra question)) (λ _. ¬ HasTemplate (asked extra question)) → (answer : Answer) → IsReturned load question answer
      → IsAnswer s extra question answer
  answers none answer returned = inr (
    of_there (HasTemplate (asked extra question)) (¬ HasTemplate (asked extra question)) found names is none,
    inr (record { load = load; snapshot = all_asked; returned_is = returned }),
  )

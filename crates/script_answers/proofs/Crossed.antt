-- One more unit, which is crossed or not.
use Rattle.std.proofs.Common.{◌++◌, ◌∷◌, ◌≡◌}
use Rattle.script_answers.proofs.Prelude.{[], ap, AppendsCrossed, append_assoc, append-nil, AreCrossed, crossed_line, crossed_lines, EntryMap, flat_map-append, inl, inr, IsCrossed, LinkedUnit, List, Name, ReadsItsTree, refl, subst, sym, Viewer, ℕ, ◌∙◌}

module _ (s : EntryMap) (viewer : Viewer) where
  none_crossed : AreCrossed s viewer [] []
  none_crossed = refl

  -- The crossed ones among some units and one more.
  with_crossed : (all : List LinkedUnit) (names : List Name) (one : LinkedUnit) → AreCrossed s viewer all names
      → IsCrossed s viewer one.unit.names → AreCrossed s viewer (all ++ one ∷ []) (names ++ one.unit.name ∷ [])
  with_crossed [] names one are is = subst (λ ns. AreCrossed s viewer (one ∷ []) (ns ++ one.unit.name ∷ [])) (sym are) (inl (is, [], refl, refl))
  with_crossed (first ∷ more) names one (inl c) is =
      inl (c.0, c.1 ++ one.unit.name ∷ [], ap (λ ns. ns ++ one.unit.name ∷ []) c.2, with_crossed more c.1 one c.3 is)
  with_crossed (first ∷ more) names one (inr c) is = inr (c.0, with_crossed more names one c.1 is)

  with_other : (all : List LinkedUnit) (names : List Name) (one : LinkedUnit) → AreCrossed s viewer all names
      → ReadsItsTree s viewer one.unit.names → AreCrossed s viewer (all ++ one ∷ []) names
  with_other [] names one are reads = inr (reads, are)
  with_other (first ∷ more) names one (inl c) reads = inl (c.0, c.1, c.2, with_other more c.1 one c.3 reads)
  with_other (first ∷ more) names one (inr c) reads = inr (c.0, with_other more names one c.1 reads)

  -- Lines for them.
  pub appends_crossed : (all : List LinkedUnit) (one : LinkedUnit) (old text new : List ℕ) → AppendsCrossed s viewer all old text
      → IsCrossed s viewer one.unit.names → new ≡ text ++ crossed_line one.unit.name → AppendsCrossed s viewer (all ++ one ∷ []) old new
  appends_crossed all one old text new h is e = record {
    crossed = h.crossed ++ one.unit.name ∷ [];
    crossed_are = with_crossed all h.crossed one h.crossed_are is;
    appended =
        e ∙ ap (λ t. t ++ crossed_line one.unit.name) h.appended ∙ append_assoc old (crossed_lines h.crossed) (crossed_line one.unit.name)
        ∙ ap (λ t. old ++ t) (ap (λ t. crossed_lines h.crossed ++ t) (sym (append-nil (crossed_line one.unit.name))) ∙ sym (flat_map-append crossed_line h.crossed (one.unit.name ∷ [])));
  }

  pub appends_other : (all : List LinkedUnit) (one : LinkedUnit) (old text : List ℕ) → AppendsCrossed s viewer all old text
      → ReadsItsTree s viewer one.unit.names → AppendsCrossed s viewer (all ++ one ∷ []) old text
  appends_other all one old text h reads = record {
    crossed = h.crossed;
    crossed_are = with_other all h.crossed one h.crossed_are reads;
    appended = h.appended;
  }

  pub appends_none : (old : List ℕ) → AppendsCrossed s viewer [] old old
  appends_none old = record { crossed = []; crossed_are = none_crossed; appended = sym (append-nil old) }

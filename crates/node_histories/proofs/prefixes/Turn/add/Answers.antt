use Rattle.std.proofs.Common.{◌++◌, ◌∷◌, ◌≡◌}
use Rattle.node_histories.proofs.{Exchanges.{adds_moves}, Prelude.{[], all_edits, ap, arith, HistoryEvent, IsLegal, IsNext, legal_filled, legal_snoc, List, rules, subst, sym, takes_in, takes_in-snoc, TurnNow, ◌∙◌}}
use Rattle.node_histories.proofs.prefixes.Turn.add.Goals as goal

pub compare_exchange-found-requires : goal.compare_exchange-found-requires
compare_exchange-found-requires g c =
    let h = c.requires.head in
    let t = c.self.inside in
    let o = g.N.NodeName.opening in
    let pen = c.no_pen-pen.ensures in
    let may : IsNext o.writer (all_edits t.seen.log) t.offer.ask = subst (λ (u : TurnNow). IsNext o.writer (all_edits u.seen) u.ask) (sym c.self.view_is) c.requires.legal in (
      ap (λ w. w.tracked) h,
      c.self.invariant.1 ∙ sym (ap (λ w. w.book) h),
      pen.0 ∙ (c.self.invariant.1 ∙ sym (ap (λ w. w.book) h)),
      c.self.invariant.3,
      rw (ap (λ w. w.key) h, pen.1, c.self.invariant.4) (adds_moves o t.seen.log t.offer.ask t.takes (sym c.self.invariant.0) c.self.invariant.2 may),
    )

pub invariant_of-result : goal.invariant_of-result
invariant_of-result g c =
    let t = c.self.inside in
    let o = g.N.NodeName.opening in
    let log = c.compare_exchange-found.new.seen.log in
    let e : log ≡ t.seen.log ++ t.offer.ask ∷ [] = search rules in
    let may : IsNext o.writer (all_edits t.seen.log) t.offer.ask = subst (λ (u : TurnNow). IsNext o.writer (all_edits u.seen) u.ask) (sym c.self.view_is) c.requires.legal in
    let longer : IsLegal o (t.seen.log ++ t.offer.ask ∷ []) = legal_snoc o t.seen.log t.offer.ask c.self.invariant.2 may in
    let filled = legal_filled o t.seen.log c.self.invariant.2 in
    let more = takes_in-snoc t.seen.log t.offer.ask filled in (
      omega (arith, c.self.invariant.0, ap takes_in e, more),
      c.compare_exchange-found.ensures.0 ∙ c.self.invariant.1,
      subst (λ (l : List HistoryEvent). IsLegal o l) (sym e) longer,
    )

use Rattle.std.proofs.Common.{◌≡◌}
use Rattle.host_trees.proofs.{Pairs.{same_contents, same_names}, Prelude.{ap, content_cmp, eq_by_cmp, name_cmp, sym, ◌∙◌}}
use Rattle.host_trees.proofs.crossings.is_same.Goals as goal

pub returns-then-eq : goal.returns-then-eq
returns-then-eq c =
    let l = c.args.left.now in
    let r = c.args.right.now in
    let by_name : c.eq.result ≡ eq_by_cmp name_cmp l.0.name r.0.name = c.eq.ensures ∙ (λ i. eq_by_cmp name_cmp (c.name.ensures.name i) (c.name-2.ensures.name i)) in
    let by_content : c.eq-then-eq.result ≡ eq_by_cmp content_cmp l.1.content r.1.content = c.eq-then-eq.ensures ∙ (λ i. eq_by_cmp content_cmp (c.entry.ensures.entry i).content (c.entry-then-eq.ensures.entry i).content) in
    let names : l.0.name ≡ r.0.name = (same_names l.0.name r.0.name).0 (sym by_name ∙ c.if-eq.true) in
    record {
      same = (
        λ t. (λ i. (names i, (same_contents l.1.content r.1.content).0 (sym by_content ∙ t) i)),
        λ e. by_content ∙ (same_contents l.1.content r.1.content).1 (ap (λ z. z.1) e),
      );
    }

pub returns-else-eq : goal.returns-else-eq
returns-else-eq c =
    let l = c.args.left.now in
    let r = c.args.right.now in
    let by_name : c.eq.result ≡ eq_by_cmp name_cmp l.0.name r.0.name = c.eq.ensures ∙ (λ i. eq_by_cmp name_cmp (c.name.ensures.name i) (c.name-2.ensures.name i)) in
    record {
      same = (λ t. cc (t, c.if-eq.false), λ e. by_name ∙ (same_names l.0.name r.0.name).1 (ap (λ z. z.0) e));
    }

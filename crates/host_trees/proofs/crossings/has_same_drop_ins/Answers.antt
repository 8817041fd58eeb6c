use Rattle.host_trees.proofs.{Pairs.{drop_ins_same}, Prelude.{ap, map, said, sym, ◌∙◌}}
use Rattle.host_trees.proofs.crossings.has_same_drop_ins.Goals as goal

pub returns : goal.returns
returns c =
    let same = drop_ins_same c.args.one.now c.args.other.now c.args.folders.now c.in_ok-left.left.items c.in_ok-right.right.items c.in_ok-left.ensures.ascending c.in_ok-right.ensures.ascending c.in_ok-left.ensures.exact c.in_ok-right.ensures.exact in
    let left = ap (map said) c.as_slice.ensures.value in
    let right = ap (map said) c.as_slice-2.ensures.value in
    record {
      same = (
        λ t. same.0 (sym left ∙ c.are_same.ensures.same.0 t ∙ right),
        λ h. c.are_same.ensures.same.1 (left ∙ same.1 h ∙ sym right),
      );
    }

use Rattle.std.proofs.Common.{◌-◌}
use Rattle.parallel_load.proofs.Prelude.{Decides-eqb, ends_is, length, sym, take, ◌∙◌}
use Rattle.parallel_load.proofs.search_prefixes.ends_with.Goals as goal

pub returns : goal.returns
returns c =
    let h = ends_is Decides-eqb c.bytes.result.now c.args.ending.now c.ends_with.result c.ends_with.ensures.value in
    record {
      ends = (
        λ e. record { start = take (length c.bytes.result.now - length c.args.ending.now) c.bytes.result.now; is = sym c.bytes.ensures.bytes ∙ h.0 e },
        λ e. h.1 e.start (c.bytes.ensures.bytes ∙ e.is),
      );
    }

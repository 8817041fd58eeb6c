use Rattle.std.proofs.Common.{◌<◌, ◌≡◌, ◌≤◌}
use Rattle.chunked_pairs.proofs.{CutEdits.{inserted}, Prelude.{ap, arith, cut_run, get_or, in_runs, length, run_at, subst, sym, viewed}, Views.{length_viewed}}
use Rattle.chunked_pairs.proofs.chunks.Chunks.cut.Goals as goal

pub cut_among-requires : goal.cut_among-requires
cut_among-requires g c =
    let le = subst (λ v. c.args.at ≤ length v.1) (sym c.self.view_is) c.requires.within in
    let within : c.args.at ≤ length c.self.inside.more.items = omega (arith, le, length_viewed c.self.inside.more.items) in
    rw c.in_ok-reserve.ensures.items (record { within = within; cut = subst (λ v. c.args.cut < length (run_at v.0 v.1 c.args.at)) (sym c.self.view_is) c.requires.cut })

pub returns-clause-ok : goal.returns-clause-ok
returns-clause-ok g c = λ d.
    let le = subst (λ v. c.args.at ≤ length v.1) (sym c.self.view_is) c.requires.within in
    let same = c.in_ok-reserve.ensures.items in
    let within : c.args.at ≤ length c.reserve.new.self.items = omega (arith, le, length_viewed c.self.inside.more.items, ap length same) in
    subst (λ v. in_runs c.cut_among.new.first.items (viewed c.insert.new.self.items) ≡ cut_run v.0 v.1 c.args.at c.args.cut (get_or (run_at v.0 v.1 c.args.at) c.args.cut d).0) c.self.view_is
    (inserted c.self.inside.first.items c.cut_among.new.first.items c.self.inside.more.items c.reserve.new.self.items c.cut_among.new.more.items c.insert.new.self.items c.args.at c.args.cut c.in_ok-behind.behind d same within c.in_ok-behind.ensures.front c.in_ok-behind.ensures.back (c.in_ok-behind.ensures.least d) c.in-Ok.ensures.items)

use Rattle.std.proofs.Common.{◌+◌, ◌-◌, ◌<◌, ◌≡◌, ◌≢◌, ◌≤◌}
use Rattle.chunked_pairs.proofs.{CutEdits.{not_lt, separator_of, some_item, take_short}, Prelude.{all_pairs, ap, arith, chunks_cut, cut_back, cut_front, cut_length, cut_run, cut_same, falls_back, falls_front, FallsTo, get_or, is_less, is_lt, length, length-drop, Less, run_at, run_is, subst, suc, sym, ◌∙◌}}
use Rattle.chunked_pairs.proofs.chunks.Chunks.cut_for_key.Goals as goal

pub cut_for-cut-requires : goal.cut_for-cut-requires
cut_for-cut-requires g c =
    let run = run_is g.K.Ord.cmp g.met.K.Ord.total c.args.self.now.0 c.args.self.now.1 c.args.at c.requires.within c.requires.chunks.chained in
    rw c.run.ensures.run (record { long = c.requires.long; within = run.within })

pub separator-requires : goal.separator-requires
separator-requires g c =
    let ms = c.args.self.now.1 in
    let at = c.args.at in
    let run = run_at c.args.self.now.0 ms at in
    let d = some_item run (omega (arith, c.requires.long)) in
    let is = c.in_ok-cut.ensures.ok d in
    let len = cut_length c.args.self.now.0 ms at c.cut_for-cut.result (get_or run c.cut_for-cut.result d).0 c.requires.within in
    record { within = rw is (omega (arith, len, c.requires.within)) }

pub returns-then-is_lt : goal.returns-then-is_lt
returns-then-is_lt g c =
    let R = g.K.Ord.cmp in
    let first = c.args.self.now.0 in
    let ms = c.args.self.now.1 in
    let at = c.args.at in
    let le = c.requires.within in
    let run = run_at first ms at in
    let cut = c.cut_for-cut.result in
    let within : cut < length run = rw c.run.ensures.run at c.cut_for-cut.ensures.within in
    let d = some_item run (omega (arith, c.requires.long)) in
    let s = (get_or run cut d).0 in
    let is = c.in_ok-cut.ensures.ok d in
    let separator = separator_of c.separator.result.now s c.cut.new.self first ms at cut c.separator.ensures.separator is le in
    let less : R c.args.key.now s ≡ Less = ap (R c.args.key.now) (sym separator) ∙ is_less _ (ap is_lt (sym c.cmp.ensures) ∙ sym c.is_lt.ensures ∙ c.if-is_lt.true) in
    let half : cut ≤ 64 = c.cut_for-cut.ensures.front d (rw c.run.ensures.run less) in
    record {
      same = ap all_pairs is ∙ cut_same first ms at cut s le;
      chunks = rw is (chunks_cut R g.met.K.Ord.total first ms at cut d c.requires.chunks le c.cut_for-cut.ensures.some within);
      err = tt;
      within = rw is (omega (arith, cut_length first ms at cut s le, le));
      falls = rw is (falls_front R g.met.K.Ord.total c.args.key.now first ms at cut s c.requires.falls less);
      half = rw (is, cut_front first ms at cut s le) (omega (arith, take_short cut run, half));
    }

pub returns : goal.returns
returns g c =
    let R = g.K.Ord.cmp in
    let first = c.args.self.now.0 in
    let ms = c.args.self.now.1 in
    let at = c.args.at in
    let le = c.requires.within in
    let run = run_at first ms at in
    let cut = c.cut_for-cut.result in
    let within : cut < length run = rw c.run.ensures.run at c.cut_for-cut.ensures.within in
    let d = some_item run (omega (arith, c.requires.long)) in
    let s = (get_or run cut d).0 in
    let is = c.in_ok-cut.ensures.ok d in
    let separator = separator_of c.separator.result.now s c.cut.new.self first ms at cut c.separator.ensures.separator is le in
    let not_less : R c.args.key.now s ≢ Less = subst (λ x. R c.args.key.now x ≢ Less) separator (not_lt _ (ap is_lt (sym c.cmp.ensures) ∙ sym c.is_lt.ensures ∙ c.if-is_lt.false)) in
    let half : length run - cut ≤ 64 = rw c.run.ensures.run at (c.cut_for-cut.ensures.back d (rw c.run.ensures.run not_less)) in
    let next : suc at ≡ at + 1 = omega arith in
    record {
      same = ap all_pairs is ∙ cut_same first ms at cut s le;
      chunks = rw is (chunks_cut R g.met.K.Ord.total first ms at cut d c.requires.chunks le c.cut_for-cut.ensures.some within);
      err = tt;
      within = rw is (omega (arith, cut_length first ms at cut s le, le));
      falls = rw is (subst (FallsTo R c.args.key.now (cut_run first ms at cut s).1) next (falls_back R g.met.K.Ord.total c.args.key.now first ms at cut s c.requires.falls not_less));
      half = rw is (subst (λ n. length (run_at (cut_run first ms at cut s).0 (cut_run first ms at cut s).1 n) ≤ 64) next (rw (cut_back first ms at cut s le) (omega (arith, length-drop cut run, half))));
    }

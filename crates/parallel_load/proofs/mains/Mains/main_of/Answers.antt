use Rattle.std.{proofs.{Common.{◌<◌}, lemmas.List.{get_or_default}}}
use Rattle.parallel_load.proofs.Prelude.{[], ap, index_at, length, List, Name, subst, sym, ℕ, ◌∙◌}
use Rattle.parallel_load.proofs.mains.Mains.main_of.Goals as goal

pub returns : goal.returns
returns c =
    let at = c.args.at in
    let L : List (Name × ℕ) → Type 0 = λ l. at < length l in
    let below = subst L (sym c.self.view_is) c.requires.within in
    let none : Name × ℕ = ([], 0) in
    record {
      index =
          ap (λ (m : Name × ℕ). m.1) (c.index.ensures ∙ sym (get_or_default c.self.inside.names.items at none c.index.result.now below))
          ∙ ap (λ (l : List (Name × ℕ)). index_at l at) c.self.view_is;
    }

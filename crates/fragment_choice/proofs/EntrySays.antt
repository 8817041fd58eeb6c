-- What an entry says is what its visible content says.
use Rattle.std.proofs.Common.{◌≡◌}
use Rattle.fragment_choice.proofs.Prelude.{ap, Content, content_says, Entry, File, Gone, HostViewMap, Link, Name, None, option_and_then, own_path, own_place, refl, says, shown, Some, Version, view, ℕ, ◌∙◌}
use Rattle.std.specs.FinMap as finmap

module _ (s : HostViewMap) (n o : Name) (level : ℕ) where
  pub nothing_says : None ≡ finmap.get (view s) (own_path o level) → None ≡ says s n o level
  nothing_says e = ap (λ x. option_and_then (content_says n o (own_place s o level)) (option_and_then shown x)) e

  pub entry_says : (x : Entry) → Some x ≡ finmap.get (view s) (own_path o level) → content_says n o (own_place s o level) x.content ≡ says s n o level
  entry_says x e = by x.version x.content ∙ ap (λ y. option_and_then (content_says n o (own_place s o level)) (option_and_then shown y)) e
    where
      by : (v : Version) (c : Content) → content_says n o (own_place s o level) c ≡ option_and_then (content_says n o (own_place s o level)) (shown (record { version = v; content = c }))
      by v Gone = refl
      by v (Link target) = refl
      by v (File bytes) = refl

-- Which names are aliases of which decides all main names, and with the choice for a main name what it resolves to.
use Rattle.std.proofs.Common.{◌↔◌, ◌≡◌}
use Rattle.fragment_choice.specs.Prelude.{ap, HostViewMap, Name, refl, subst, sym, ℕ, ◌∙◌}
use Rattle.fragment_choice.specs.{Choices.{choice}, declared.{choices.{Cause.TheVariants.{Loop}, Choice.{Choice, TheVariants.{Alias, Bad, Fragment, Masked, NotFound}}}, resolutions.Resolution.{Resolution}}, ResolutionLaws.{following_finds_the_end, resolution_resolves}, Resolutions.{Chain, Chain.{here, step}, IsEnd, Leads, main, resolution, Resolves, Resolves.{ends_at, goes_on}}}

-- Both views have the same aliases.
abbrev pub SameLeads : HostViewMap → HostViewMap → Type 0
SameLeads s t = (n m : Name) → Leads s n m ↔ Leads t n m

-- Views with the same aliases have the same main name for each name.
abbrev pub LeadsDecideMains : Type 0
LeadsDecideMains = (s t : HostViewMap) → SameLeads s t → (n : Name) → main s n ≡ main t n

-- In such views a main name with the same choice resolves to the same.
abbrev pub LeadsAndChoiceDecide : Type 0
LeadsAndChoiceDecide =
    (s t : HostViewMap) → SameLeads s t → (u : Name) → main s u ≡ u → choice s u ≡ choice t u → resolution s u ≡ resolution t u

module _ (s t : HostViewMap) (same : SameLeads s t) where
  chain_same : (k : ℕ) (n u : Name) → Chain s k n u → Chain t k n u
  chain_same k n u (here _) = here n
  chain_same k n u (step _ m _ d l rest) = step n m u d ((same n m).0 l) (chain_same d m u rest)

  end_same : (u : Name) → IsEnd (choice s u) → IsEnd (choice t u)
  end_same u ends = by (choice t u) refl
    where
      by : (c : Choice) → choice t u ≡ c → IsEnd c
      by NotFound e = tt
      by Masked e = tt
      by (Fragment p) e = tt
      by (Alias m) e = subst IsEnd ((same u m).1 e) ends
      by (Bad x) e = tt

  ended : Name → Choice → Resolution
  ended u c = record { main = u; choice = c }

  main_by : (n : Name) (r : Resolution) → Resolves s n r → r.main ≡ main t n
  unfolding ended
  main_by n r (ends_at k u le chain ends) =
      sym
      (ap (λ (x : Resolution). x.main)
      ((following_finds_the_end t n (ended u (choice t u))).0 (ends_at k u le (chain_same k n u chain) (end_same u ends))))
  main_by n r (goes_on u chain) =
      sym
      (ap (λ (x : Resolution). x.main)
      ((following_finds_the_end t n (ended n (Bad Loop))).0 (goes_on u (chain_same 9 n u chain))))

  resolved_by : (u : Name) (r : Resolution) → r.main ≡ u → choice s u ≡ choice t u → Resolves s u r → r ≡ resolution t u
  unfolding ended
  resolved_by u r own here_same (ends_at k v le chain ends) =
      let at_end : choice s v ≡ choice t v = subst (λ (w : Name). choice s w ≡ choice t w) (sym own) here_same in
      ap (ended v) at_end
      ∙ sym
      ((following_finds_the_end t u (ended v (choice t v))).0 (ends_at k v le (chain_same k u v chain) (end_same v ends)))
  resolved_by u r own here_same (goes_on v chain) =
      sym ((following_finds_the_end t u (ended u (Bad Loop))).0 (goes_on v (chain_same 9 u v chain)))

pub leads_decide_mains : LeadsDecideMains
leads_decide_mains s t same n = main_by s t same n (resolution s n) (resolution_resolves s n)

pub leads_and_choice_decide : LeadsAndChoiceDecide
leads_and_choice_decide s t same u own here_same =
    resolved_by s t same u (resolution s u) own here_same (resolution_resolves s u)

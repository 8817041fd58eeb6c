-- Laws of chains of aliases and their ends.
use Rattle.std.proofs.Common.{◌+◌, ◌-◌, ◌↔◌, ◌≡◌}
use Rattle.fragment_choice.specs.Prelude.{ap, arith, HostViewMap, Name, refl, subst, suc, zero, ℕ, ◌∙◌}
use Rattle.fragment_choice.specs.{Choices.{choice}, declared.{choices.Choice.{Choice, TheVariants.{Alias, Bad, Fragment, Masked, NotFound}}, resolutions.Resolution.{Resolution}}, Resolutions.{Chain, Chain.{here, step}, ended_or, follow, IsEnd, Leads, main, resolution, Resolves, Resolves.{ends_at, goes_on}}}

-- Following aliases finds the end of the chain: the name resolves to the result, and to nothing else.
abbrev pub FollowingFindsTheEnd : Type 0
FollowingFindsTheEnd = (s : HostViewMap) (n : Name) (r : Resolution) → Resolves s n r ↔ (resolution s n ≡ r)

-- A main name is its own main name, and resolves to the same.
abbrev pub MainsAreTheirOwn : Type 0
MainsAreTheirOwn = (s : HostViewMap) (n : Name) → (main s (main s n) ≡ main s n) × (resolution s (main s n) ≡ resolution s n)

-- What a name resolves to is no alias.
abbrev pub NoAliasStands : Type 0
NoAliasStands = (s : HostViewMap) (n : Name) → IsEnd (resolution s n).choice

-- Views that choose the same for each name resolve each name alike.
abbrev pub ChoicesDecide : Type 0
ChoicesDecide = (s t : HostViewMap) → ((n : Name) → choice s n ≡ choice t n) → (n : Name) → resolution s n ≡ resolution t n

longer : (s : HostViewMap) {n m : Name} {k : ℕ} (u : Name) → Chain s k n m → Leads s m u → Chain s (suc k) n u
longer s u (here m) l = step m u u 0 l (here u)
longer s u (step n x m j h rest) l = step n x u (suc j) h (longer s u rest l)

after : (s : HostViewMap) (n m : Name) (k i : ℕ) (c : Choice) → choice s m ≡ c → i + suc k ≡ 9 → Chain s i n m
    → ((a : Name) → choice s m ≡ Alias a → Resolves s n (follow s k n a)) → Resolves s n (ended_or (follow s k n) m c)
after s n m k i NotFound e t h rest = subst (λ c. IsEnd c → Resolves s n (record { main = m; choice = c })) e (ends_at i m (omega arith) h) tt
after s n m k i Masked e t h rest = subst (λ c. IsEnd c → Resolves s n (record { main = m; choice = c })) e (ends_at i m (omega arith) h) tt
after s n m k i (Fragment p) e t h rest = subst (λ c. IsEnd c → Resolves s n (record { main = m; choice = c })) e (ends_at i m (omega arith) h) tt
after s n m k i (Alias a) e t h rest = rest a e
after s n m k i (Bad x) e t h rest = subst (λ c. IsEnd c → Resolves s n (record { main = m; choice = c })) e (ends_at i m (omega arith) h) tt

follows : (s : HostViewMap) (n m : Name) (k i : ℕ) → i + k ≡ 9 → Chain s i n m → Resolves s n (follow s k n m)
unfolding follow
follows s n m zero i t h = goes_on m (subst (λ j. Chain s j n m) (let e : i ≡ 9 = omega arith in e) h)
follows s n m (suc k) i t h = after s n m k i (choice s m) refl t h (λ a l. follows s n a k (suc i) (omega arith) (longer s a h l))

-- The name resolves to what is found.
pub resolution_resolves : (s : HostViewMap) (n : Name) → Resolves s n (resolution s n)
resolution_resolves s n = follows s n n 9 0 refl (here n)

-- Along a chain, fewer look-ups are left.
chain_follows : (s : HostViewMap) (n m u : Name) (k i j : ℕ) → Chain s k m u → i ≡ k + j → follow s i n m ≡ follow s j n u
unfolding follow
chain_follows s n m u k i j (here _) e = let h : i ≡ j = omega arith in ap (λ x. follow s x n m) h
chain_follows s n m u k i j (step _ x _ d l rest) e =
    let h : i ≡ suc (d + j) = omega arith in
    ap (λ y. follow s y n m) h ∙ ap (ended_or (follow s (d + j) n) m) l ∙ chain_follows s n x u d (d + j) j rest refl

end_is : (more : Name → Resolution) (u : Name) (c : Choice) → IsEnd c → ended_or more u c ≡ record { main = u; choice = c }
end_is more u NotFound h = refl
end_is more u Masked h = refl
end_is more u (Fragment p) h = refl
end_is more u (Alias m) h = absurd h
end_is more u (Bad x) h = refl

resolves_only : (s : HostViewMap) (n : Name) (r : Resolution) → Resolves s n r → resolution s n ≡ r
unfolding follow
resolves_only s n r (ends_at k u le chain ends) =
    let t : 9 ≡ k + suc (8 - k) = omega arith in
    chain_follows s n n u k 9 (suc (8 - k)) chain t ∙ end_is (follow s (8 - k) n) u (choice s u) ends
resolves_only s n r (goes_on u chain) = chain_follows s n n u 9 9 0 chain refl

pub following_finds_the_end : FollowingFindsTheEnd
following_finds_the_end s n r = (resolves_only s n r, λ e. subst (Resolves s n) e (resolution_resolves s n))

ends_well : (s : HostViewMap) (n : Name) (r : Resolution) → Resolves s n r → IsEnd r.choice
ends_well s n r (ends_at k u le chain ends) = ends
ends_well s n r (goes_on u chain) = tt

pub no_alias_stands : NoAliasStands
no_alias_stands s n = ends_well s n (resolution s n) (resolution_resolves s n)

again : (s : HostViewMap) (n : Name) (r : Resolution) → resolution s n ≡ r → Resolves s n r → resolution s r.main ≡ r
again s n r e (ends_at k u le chain ends) = resolves_only s u _ (ends_at 0 u (omega arith) (here u) ends)
again s n r e (goes_on u chain) = e

pub mains_are_their_own : MainsAreTheirOwn
mains_are_their_own s n =
    let e = again s n (resolution s n) refl (resolution_resolves s n) in
    (ap (λ r. r.main) e, e)

ended_same : (more same : Name → Resolution) (n : Name) (c : Choice) → ((m : Name) → more m ≡ same m)
    → ended_or more n c ≡ ended_or same n c
ended_same more same n NotFound h = refl
ended_same more same n Masked h = refl
ended_same more same n (Fragment p) h = refl
ended_same more same n (Alias m) h = h m
ended_same more same n (Bad x) h = refl

follow_same : (s t : HostViewMap) → ((n : Name) → choice s n ≡ choice t n) → (k : ℕ) (n m : Name) → follow s k n m ≡ follow t k n m
unfolding follow
follow_same s t same zero n m = refl
follow_same s t same (suc k) n m = ap (ended_or (follow s k n) m) (same m) ∙ ended_same (follow s k n) (follow t k n) m (choice t m) (follow_same s t same k n)

pub choices_decide : ChoicesDecide
choices_decide s t same n = follow_same s t same 9 n n

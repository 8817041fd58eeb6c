-- Each place and its text give each other; for a text that is no place, the refusal of its host comes first.
use Rattle.std.proofs.Common.{◌++◌, ◌+◌, ◌<◌, ◌==◌, ◌∷◌, ◌≡◌, ◌≢◌, ◌⊎◌}
use Rattle.load_path.specs.Paths.{text_of}
use Rattle.load_places.specs.Prelude.{[], add-one, and_parts, ap, append_assoc, are_their_texts, arith, Bool, cases_Bool, cond-false, cond-true, drop, drop-append-add, eqb-true, Err, false, inl, inr, is_err, IsErr, IsPath, IsTrue, length, List, list_all, list_any, nat_lt, nat_tests, None, Ok, Option, or_parts, path_of, PathFault, PathParts, position, position_from, position_from-zero, refl, Result, Some, subst, suc, sym, take, take-append_seam, true, zero, ℕ, ⊎_elim, ◌∙◌}
use Rattle.load_places.specs.{declared.places.{PlaceFault.TheVariants.{HostName}, Scope.{Scope, TheVariants.{Fleet, Host}}}, Hosts.{host_of, is_host, is_host_byte}, Places.{PlaceParts}, Texts.{AreTheirTexts, fault_of_path, host_end, in_scope_of, is_colon, IsScope, of_host, place_cut, place_of, place_text}}

-- what stands before the first colon of a text that doesn't begin with a slash
pub record IsBeforeColon (prefix : List ℕ) : Type 0 where
  pub no_colon : list_any is_colon prefix ≡ false
  pub no_slash : (rest : List ℕ) → prefix ≢ 47 ∷ rest

-- where that names no host, the text is refused for it, whatever stands behind the colon: a good path, or a bad one
abbrev pub BadHostsAreRefusedFirst : Type 0
BadHostsAreRefusedFirst = (prefix path : List ℕ) → IsBeforeColon prefix → IsErr (host_of prefix)
    → place_of (prefix ++ 58 ∷ path) ≡ Err HostName

-- behind a host's name and a colon, a bad path is refused as paths are
abbrev pub BadPathsAreRefusedNext : Type 0
BadPathsAreRefusedNext = (host path : List ℕ) (fault : PathFault) → IsTrue (is_host host) → path_of path ≡ Err fault
    → place_of (host ++ 58 ∷ path) ≡ Err (fault_of_path fault)

-- and so is a text that begins with a slash, or has no colon
abbrev pub TextsWithoutHostsAreRefusedAsPaths : Type 0
TextsWithoutHostsAreRefusedAsPaths = (text : List ℕ) (fault : PathFault)
    → ((rest : List ℕ) × (text ≡ 47 ∷ rest)) ⊎ (list_any is_colon text ≡ false)
    → path_of text ≡ Err fault → place_of text ≡ Err (fault_of_path fault)

-- a byte of a host's name is no colon and no slash
plain_byte : (b : ℕ) → is_host_byte b ≡ true → (is_colon b ≡ false) × ((b == 47) ≡ false)
plain_byte b h = (grind (arith, nat_tests, h), grind (arith, nat_tests, h))

-- the first colon stands behind the bytes of a host's name
colon_from : (i : ℕ) (h rest : List ℕ) → list_all is_host_byte h ≡ true → position_from is_colon i (h ++ 58 ∷ rest) ≡ Some (i + length h)
colon_from i [] rest all = ap Some (omega arith)
colon_from i (b ∷ h) rest all =
    let parts = and_parts _ _ all in
    cond-false _ _ _ (plain_byte b parts.0).0 ∙ colon_from (i + 1) h rest parts.1 ∙ ap Some (omega arith)

colon_follows : (h rest : List ℕ) → list_all is_host_byte h ≡ true → position is_colon (h ++ 58 ∷ rest) ≡ Some (length h)
colon_follows h rest all = position_from-zero is_colon (h ++ 58 ∷ rest) ∙ colon_from 0 h rest all ∙ ap Some (omega arith)

host_bytes : (h : List ℕ) → is_host h ≡ true → (list_all is_host_byte h ≡ true) × (nat_lt 0 (length h) ≡ true)
host_bytes h is = let outer = and_parts _ _ is in (outer.1, (and_parts _ _ outer.0).0)

ends_host : (h rest : List ℕ) → is_host h ≡ true → host_end (h ++ 58 ∷ rest) ≡ Some (length h)
ends_host [] rest is = let some = (host_bytes [] is).1 in cc (some)
ends_host (b ∷ h) rest is =
    let all = (host_bytes (b ∷ h) is).0 in
    cond-false _ _ _ (plain_byte b (and_parts _ _ all).0).1 ∙ colon_follows (b ∷ h) rest all

-- the text of a path begins with a slash
no_host : (path : PathParts) → path.rank < 4 → host_end (text_of path) ≡ None
unfolding text_of
no_host path lt = by path.rank lt
  where
    by : (rank : ℕ) → rank < 4 → host_end (text_of (record path { rank = rank })) ≡ None
    by zero lt = refl
    by (suc zero) lt = refl
    by (suc (suc zero)) lt = refl
    by (suc (suc (suc zero))) lt = refl
    by (suc (suc (suc (suc rank)))) lt = absurd (omega (arith, lt))

read_back : (place : PlaceParts) → IsScope place.scope → IsPath place.path → place_of (place_text place) ≡ Ok place
read_back place scope path = by place.scope scope
  where
    by : (s : Scope) → IsScope s → place_of (place_text (record { scope = s; path = place.path })) ≡ Ok (record { scope = s; path = place.path })
    by Fleet _ = ap (λ o. place_cut o (text_of place.path)) (no_host place.path path.directory) ∙ ap (in_scope_of Fleet) (are_their_texts.read_back place.path path)
    by (Host h) is =
        let text = text_of place.path in
        ap place_of (append_assoc h (58 ∷ []) text)
        ∙ ap (λ o. place_cut o (h ++ 58 ∷ text)) (ends_host h text is)
        ∙ ap (λ (t : List ℕ). of_host (host_of t) (path_of (drop (length h + 1) (h ++ 58 ∷ text)))) (take-append_seam h (58 ∷ text))
        ∙ ap (λ (t : List ℕ). of_host (host_of h) (path_of t)) (drop-append-add h (58 ∷ text) 1)
        ∙ ap (λ r. of_host r (path_of text)) (cond-true _ _ _ is)
        ∙ ap (in_scope_of (Host h)) (are_their_texts.read_back place.path path)

-- what is found at a colon
cut_there : (i : ℕ) (text : List ℕ) (at : ℕ) → position_from is_colon i text ≡ Some at
    → (k : ℕ) × (at ≡ i + k) × (take k text ++ 58 ∷ drop (suc k) text ≡ text)
cut_there i [] at e = cc (e)
cut_there i (b ∷ text) at e = ⊎_elim
    (λ colon.
    let here : Some i ≡ Some at = sym (cond-true _ _ _ colon) ∙ e in
    let at_is : at ≡ i = cc in
    let b_is : b ≡ 58 = grind (arith, nat_tests, colon) in
    (0, omega (arith, at_is), ap (λ (c : ℕ). c ∷ text) (sym b_is)))
    (λ other.
    let later = cut_there (i + 1) text at (sym (cond-false _ _ _ other) ∙ e) in
    (suc later.0, omega (arith, later.1), ap (λ (t : List ℕ). b ∷ t) later.2))
    (cases_Bool (is_colon b))

cut_at : (text : List ℕ) (at : ℕ) → position is_colon text ≡ Some at → take at text ++ 58 ∷ drop (at + 1) text ≡ text
cut_at text at e =
    let there = cut_there 0 text at (sym (position_from-zero is_colon text) ∙ e) in
    let at_is : at ≡ there.0 = omega (arith, there.1) in
    ap (λ n. take n text ++ 58 ∷ drop (n + 1) text) at_is ∙ ap (λ n. take there.0 text ++ 58 ∷ drop n text) (add-one there.0) ∙ there.2

end_cuts : (text : List ℕ) (at : ℕ) → host_end text ≡ Some at → take at text ++ 58 ∷ drop (at + 1) text ≡ text
end_cuts [] at e = cc (e)
end_cuts (b ∷ text) at e = ⊎_elim
    (λ slash. let wrong = sym (cond-true _ _ _ slash) ∙ e in cc (wrong))
    (λ other. cut_at (b ∷ text) at (sym (cond-false _ _ _ other) ∙ e))
    (cases_Bool (b == 47))

-- what was read in a scope is written so
written_in : (scope : Scope) (text : List ℕ) (place : PlaceParts) → in_scope_of scope (path_of text) ≡ Ok place
    → (place.scope ≡ scope) × (text_of place.path ≡ text) × IsPath place.path
written_in scope text place e = by (path_of text) refl e
  where
    by : (r : Result PathParts PathFault) → path_of text ≡ r → in_scope_of scope r ≡ Ok place
        → (place.scope ≡ scope) × (text_of place.path ≡ text) × IsPath place.path
    by (Ok path) at h =
        let same : record { scope = scope; path = path } ≡ place = cc (h) in
        let written = are_their_texts.written_back text path at in
        subst (λ (p : PlaceParts). (p.scope ≡ scope) × (text_of p.path ≡ text) × IsPath p.path) same (refl, written.0, written.1)
    by (Err fault) at h = cc (h)

written_back : (text : List ℕ) (place : PlaceParts) → place_of text ≡ Ok place
    → (place_text place ≡ text) × IsScope place.scope × IsPath place.path
written_back text place e = by (host_end text) refl e
  where
    by : (o : Option ℕ) → host_end text ≡ o → place_cut o text ≡ Ok place
        → (place_text place ≡ text) × IsScope place.scope × IsPath place.path
    by None at h =
        let written = written_in Fleet text place h in (
          ap (λ (s : Scope). place_text (record { scope = s; path = place.path })) written.0 ∙ written.1,
          subst IsScope (sym written.0) tt,
          written.2,
        )
    by (Some n) at h = ⊎_elim
        (λ good.
        let prefix = take n text in
        let written = written_in (Host prefix) (drop (n + 1) text) place (sym (ap (λ r. of_host r (path_of (drop (n + 1) text))) (cond-true _ _ _ good)) ∙ h) in (
          ap (λ (s : Scope). place_text (record { scope = s; path = place.path })) written.0 ∙ append_assoc prefix (58 ∷ []) (text_of place.path) ∙ ap (λ (t : List ℕ). prefix ++ 58 ∷ t) written.1 ∙ end_cuts text n at,
          subst IsScope (sym written.0) good,
          written.2,
        ))
        (λ bad. let wrong = sym (ap (λ r. of_host r (path_of (drop (n + 1) text))) (cond-false _ _ _ bad)) ∙ h in cc (wrong))
        (cases_Bool (is_host (take n text)))

-- each place and its text give each other
pub places_their_texts : AreTheirTexts
places_their_texts = record { read_back = read_back; written_back = written_back }

-- ---- texts that are refused

-- the first colon stands behind what has none
colon_after : (i : ℕ) (prefix rest : List ℕ) → list_any is_colon prefix ≡ false
    → position_from is_colon i (prefix ++ 58 ∷ rest) ≡ Some (i + length prefix)
colon_after i [] rest none = ap Some (omega arith)
colon_after i (b ∷ prefix) rest none =
    let parts = or_parts (is_colon b) (list_any is_colon prefix) none in
    cond-false _ _ _ parts.0 ∙ colon_after (i + 1) prefix rest parts.1 ∙ ap Some (omega arith)

first_colon : (prefix rest : List ℕ) → list_any is_colon prefix ≡ false → position is_colon (prefix ++ 58 ∷ rest) ≡ Some (length prefix)
first_colon prefix rest none = position_from-zero is_colon (prefix ++ 58 ∷ rest) ∙ colon_after 0 prefix rest none ∙ ap Some (omega arith)

ends_there : (prefix rest : List ℕ) → IsBeforeColon prefix → host_end (prefix ++ 58 ∷ rest) ≡ Some (length prefix)
ends_there [] rest is = first_colon [] rest is.no_colon
ends_there (b ∷ prefix) rest is = ⊎_elim
    (λ slash. absurd (is.no_slash prefix (ap (λ (c : ℕ). c ∷ prefix) (eqb-true b 47 slash))))
    (λ other. cond-false _ _ _ other ∙ first_colon (b ∷ prefix) rest is.no_colon)
    (cases_Bool (b == 47))

-- what is cut there is read as a host and a path
read_apart : (prefix path : List ℕ) → host_end (prefix ++ 58 ∷ path) ≡ Some (length prefix)
    → place_of (prefix ++ 58 ∷ path) ≡ of_host (host_of prefix) (path_of path)
read_apart prefix path ends =
    ap (λ o. place_cut o (prefix ++ 58 ∷ path)) ends
    ∙ ap (λ (t : List ℕ). of_host (host_of t) (path_of (drop (length prefix + 1) (prefix ++ 58 ∷ path)))) (take-append_seam prefix (58 ∷ path))
    ∙ ap (λ (t : List ℕ). of_host (host_of prefix) (path_of t)) (drop-append-add prefix (58 ∷ path) 1)

pub bad_hosts_are_refused_first : BadHostsAreRefusedFirst
bad_hosts_are_refused_first prefix path is bad = read_apart prefix path (ends_there prefix path is) ∙ by (is_host prefix) refl
  where
    by : (b : Bool) → is_host prefix ≡ b → of_host (host_of prefix) (path_of path) ≡ Err HostName
    by true good = let wrong = ap is_err (sym (cond-true _ _ _ good)) ∙ bad in cc (wrong)
    by false refused = ap (λ r. of_host r (path_of path)) (cond-false _ _ _ refused)

pub bad_paths_are_refused_next : BadPathsAreRefusedNext
bad_paths_are_refused_next host path fault good bad =
    read_apart host path (ends_host host path good)
    ∙ ap (λ r. of_host r (path_of path)) (cond-true _ _ _ good)
    ∙ ap (in_scope_of (Host host)) bad

no_colon : (i : ℕ) (text : List ℕ) → list_any is_colon text ≡ false → position_from is_colon i text ≡ None
no_colon i [] none = refl
no_colon i (b ∷ text) none =
    let parts = or_parts (is_colon b) (list_any is_colon text) none in
    cond-false _ _ _ parts.0 ∙ no_colon (i + 1) text parts.1

no_end : (text : List ℕ) → list_any is_colon text ≡ false → host_end text ≡ None
no_end [] none = refl
no_end (b ∷ text) none = ⊎_elim
    (λ slash. cond-true _ _ _ slash)
    (λ other. cond-false _ _ _ other ∙ position_from-zero is_colon (b ∷ text) ∙ no_colon 0 (b ∷ text) none)
    (cases_Bool (b == 47))

pub texts_without_hosts_are_refused_as_paths : TextsWithoutHostsAreRefusedAsPaths
texts_without_hosts_are_refused_as_paths text fault without bad = ap (λ o. place_cut o text) (by without) ∙ ap (in_scope_of Fleet) bad
  where
    by : ((rest : List ℕ) × (text ≡ 47 ∷ rest)) ⊎ (list_any is_colon text ≡ false) → host_end text ≡ None
    by (inl (rest, is)) = ap host_end is
    by (inr none) = no_end text none

-- How long frames and their parts are at most.
use Rattle.std.proofs.Common.{◌≡◌, ◌≤◌, ◌+◌, ◌*◌, ◌/◌, ◌%◌, ◌++◌, ◌∷◌, ℕ, zero, suc, Bool, true, false, cond, ltb, List, [], length, min, Option, None, Some, refl, ap, ◌∙◌, ⊎_elim, arith, length-append}
use Rattle.std.specs.Prelude.{not, ◌||◌, ◌&&◌, nat_le}
use Rattle.std.specs.FinMap as finmap
use Rattle.std.specs.List.{AllByRecursion, flat_map, list_all}
use Rattle.std.proofs.lemmas.Bool.{and_parts, cases_lt, leb-true, lt-ltb}
use Rattle.std.proofs.lemmas.List.Concat.{flat_map-cons}
use Rattle.sha2.specs.Sha256.{sha256}
use Rattle.sha2.proofs.Facts256.{length-sha256}
use Rattle.byte_fields.specs.Spelling.{number, number_within, short_string}
use Rattle.join_law.specs.declared.versions.Version.{Version}
use Rattle.load_path.specs.Paths.{has_folder, is_component, is_component_byte, is_dots, IsPath, path_cmp, PathParts}
use Rattle.load_places.specs.Hosts.{is_host_byte}
use Rattle.load_places.specs.Places.{PlaceParts}
use Rattle.load_places.specs.Texts.{IsScope}
use Rattle.load_places.specs.declared.places.Scope.{Scope}
use Rattle.load_places.specs.declared.places.Scope.TheVariants.{Fleet, Host}
use Rattle.edit_sums.specs.Contents.{bytes_of}
use Rattle.edit_sums.specs.Entries.{Entry}
use Rattle.edit_sums.specs.Sums.{EntryMap}
use Rattle.edit_sums.specs.declared.contents.Content.{Content}
use Rattle.edit_sums.specs.declared.contents.Content.TheVariants.{File, Gone, Link}
use Rattle.path_maps.specs.PlaceMaps.{placed}
use Rattle.range_prints.specs.declared.ranges.Range.{Range}
use Rattle.exchange_session.specs.declared.messages.{RangeAsk.{RangeAsk}, RangePrint.{RangePrint}}
use Rattle.store_bytes.specs.Bytes.{HasSpelling}
use Rattle.store_bytes.specs.ListSpelling.{AreGroup, head, pair, pairs}
use Rattle.store_bytes.specs.PartingLaws.{flattened-parted}
use Rattle.store_bytes.specs.Parts.{parted}
use Rattle.store_bytes.specs.Spelling.{content, entry, IsEntry, IsPlace, IsVersion, path, place, scope, version}
use Rattle.store_bytes.specs.Stores.{flattened, Scoped}
use Rattle.exchange_bytes.specs.Chains.{chain, IsChain}
use Rattle.exchange_bytes.specs.Cutting.{ask_weight, content_weight, entry_weight, piece_weight, print_weight, total}
use Rattle.exchange_bytes.specs.Frames.{parts_of}
use Rattle.exchange_bytes.specs.Sizes.{AreShort, TellsFew}
use Rattle.exchange_bytes.specs.Spelling.{ask, ask_tells, asks, bound, fields, flag, frame_covered, hello, IsAsk, IsBound, is_last, IsPrint, IsRange, piece, print, print_tells, prints, range}

-- ---- fields

number_short : (k n : ℕ) → length (number_within k n) ≤ k
unfolding number_within
number_short zero n = omega arith
number_short (suc k) n = by (ltb n 128) (number_short k (n / 128))
  where
    by : (b : Bool) → length (number_within k (n / 128)) ≤ k
        → length (cond b (n ∷ []) ((n % 128 + 128) ∷ number_within k (n / 128))) ≤ suc k
    by true rest = omega arith
    by false rest = omega (arith, rest)

ten : (n : ℕ) → length (number n) ≤ 10
ten n = number_short 10 n

component_short : (bytes : List ℕ) → is_component bytes ≡ true → length bytes ≤ 255
component_short bytes is =
    let a = and_parts (ltb 0 (length bytes) && nat_le (length bytes) 255 && list_all is_component_byte bytes) (not (is_dots bytes)) is in
    let b = and_parts (ltb 0 (length bytes) && nat_le (length bytes) 255) (list_all is_component_byte bytes) a.0 in
    let c = and_parts (ltb 0 (length bytes)) (nat_le (length bytes) 255) b.0 in
    leb-true _ _ c.1

folder_short : (p : PathParts) → (not (has_folder p) || is_component p.folder) ≡ true → length p.folder ≤ 255
folder_short p is = ⊎_elim (λ few. omega (arith, few)) (λ many. component_short p.folder (other (ltb 0 (length p.folder)) (is_component p.folder) (lt-ltb _ _ (omega (arith, many))) is)) (cases_lt (length p.folder) 256)
  where
    other : (b c : Bool) → b ≡ true → (not b || c) ≡ true → c ≡ true
    other true c some is = is
    other false c some is = absurd cc

path_short : (p : PathParts) → IsPath p → length (path p) ≤ 513
path_short p is =
    let folder = folder_short p is.folder in
    let name = component_short p.name is.name in
    let parts = length-append (short_string p.folder) (short_string p.name) in
    omega (arith, folder, name, parts)

scope_short : (s : Scope) → IsScope s → length (scope s) ≤ 65
scope_short Fleet is = omega arith
scope_short (Host h) is =
    let outer = and_parts (ltb 0 (length h) && nat_le (length h) 64) (list_all is_host_byte h) is in
    let inner = and_parts (ltb 0 (length h)) (nat_le (length h) 64) outer.0 in
    let within : length h ≤ 64 = leb-true _ _ inner.1 in
    omega (arith, within)

place_short : (q : PlaceParts) → IsPlace q → length (place q) ≤ 578
place_short q is =
    let a = scope_short q.scope is.scope in
    let b = path_short q.path is.path in
    let parts = length-append (scope q.scope) (path q.path) in
    omega (arith, a, b, parts)

version_short : (v : Version) → length (version v) ≤ 20
version_short v =
    let a = ten v.counter in
    let b = ten v.writer in
    let parts = length-append (number v.counter) (number v.writer) in
    omega (arith, a, b, parts)

content_short : (c : Content) → length (content c) ≤ 11 + length (bytes_of c)
content_short Gone = omega arith
content_short (Link t) = let a = ten (length t) in let parts = length-append (number (length t)) t in omega (arith, a, parts)
content_short (File t) = let a = ten (length t) in let parts = length-append (number (length t)) t in omega (arith, a, parts)

entry_short : (x : Entry) → length (entry x) ≤ 31 + length (bytes_of x.content)
entry_short x =
    let a = version_short x.version in
    let b = content_short x.content in
    let parts = length-append (version x.version) (content x.content) in
    omega (arith, a, b, parts)

-- ---- ranges

bound_short : (last b : Option PlaceParts) → IsBound b → length (bound last b) ≤ 579
bound_short last None is = omega arith
bound_short last (Some p) is = by (is_last last p) (place_short p is)
  where
    by : (same : Bool) → length (place p) ≤ 578 → length (cond same (1 ∷ []) (2 ∷ place p)) ≤ 579
    by true few = omega arith
    by false few = omega (arith, few)

range_short : (last : Option PlaceParts) (r : Range) → IsRange r → length (range last r) ≤ 1158
range_short last r is =
    let a = bound_short last r.from is.from in
    let b = bound_short r.from r.until is.until in
    let parts = length-append (bound last r.from) (bound r.from r.until) in
    omega (arith, a, b, parts)

print_short : (last : Option PlaceParts) (it : RangePrint) → IsPrint last it → length (print last it) ≤ print_weight it
print_short last it is =
    let a = range_short last it.range is.range in
    let b = ten it.print in
    let parts = length-append (range last it.range) (number it.print) in
    omega (arith, a, b, parts)

versions_short : (vs : List (PlaceParts × Version)) → AllByRecursion (λ p. IsPlace p.0 × IsVersion p.1) vs
    → length (flat_map (pair place version) vs) ≤ 598 * length vs
versions_short [] each = omega arith
versions_short (v ∷ vs) each =
    let rest = versions_short vs each.1 in
    let a = place_short v.0 each.0.0 in
    let b = version_short v.1 in
    let one = length-append (place v.0) (version v.1) in
    let all = ap length (flat_map-cons (pair place version) v vs) ∙ length-append (pair place version v) (flat_map (pair place version) vs) in
    omega (arith, rest, a, b, one, all)

IsFewAsk : Option PlaceParts → RangeAsk → Type 0
IsFewAsk last it = IsAsk last it × TellsFew it

ask_short : (last : Option PlaceParts) (it : RangeAsk) → IsFewAsk last it → length (ask last it) ≤ ask_weight it
unfolding IsFewAsk
ask_short last it is =
    let vs = finmap.entries it.versions in
    let a = range_short last it.range is.0.range in
    let b = ten (length vs) in
    let c = versions_short vs is.0.versions.each in
    let list = length-append (number (length vs)) (flat_map (pair place version) vs) in
    let parts = length-append (range last it.range) (pairs place version vs) in
    let few = is.1 in
    let least : min (length vs) 1498 ≡ length vs = omega (arith, few) in
    omega (arith, a, b, c, list, parts, least)

chain_short : {S A : Type 0} (text : S → A → List ℕ) (told : A → S) (Fits : S → A → Type 0) (weight : A → ℕ)
    → ((s : S) (x : A) → Fits s x → length (text s x) ≤ weight x) → (s : S) (xs : List A) → IsChain Fits told s xs
    → length (chain text told s xs) ≤ total weight xs
chain_short text told Fits weight one s [] each = omega arith
chain_short text told Fits weight one s (x ∷ xs) each =
    let a = one s x each.0 in
    let rest = chain_short text told Fits weight one (told x) xs each.1 in
    let parts = length-append (text s x) (chain text told (told x) xs) in
    omega (arith, a, rest, parts)

few_asks : (last : Option PlaceParts) (its : List RangeAsk) → IsChain IsAsk ask_tells last its
    → AllByRecursion TellsFew its → IsChain IsFewAsk ask_tells last its
unfolding IsFewAsk
few_asks last [] each few = tt
few_asks last (it ∷ its) each few = ((each.0, few.0), few_asks (ask_tells it) its each.1 few.1)

-- ---- pieces

own_short : (es : List (PathParts × Entry)) → AllByRecursion (λ p. IsPath p.0 × IsEntry p.1) es
    → length (flat_map (pair path entry) es) + 156 * length es ≤ total (λ e. content_weight e.1.content) es
own_short [] each = omega arith
own_short (e ∷ es) each =
    let rest = own_short es each.1 in
    let a = path_short e.0 each.0.0 in
    let b = entry_short e.1 in
    let one = length-append (path e.0) (entry e.1) in
    let all = ap length (flat_map-cons (pair path entry) e es) ∙ length-append (pair path entry e) (flat_map (pair path entry) es) in
    omega (arith, rest, a, b, one, all)

total_append : (xs ys : List (PlaceParts × Entry)) → total entry_weight (xs ++ ys) ≡ total entry_weight xs + total entry_weight ys
total_append [] ys = omega arith
total_append (x ∷ xs) ys = let rest = total_append xs ys in omega (arith, rest)

total_placed : (s : Scope) (es : List (PathParts × Entry)) → total entry_weight (placed s es) ≡ total (λ e. content_weight e.1.content) es
total_placed s [] = refl
total_placed s (e ∷ es) = ap (λ n. content_weight e.1.content + n) (total_placed s es)

scopes_short : (gs : List Scoped) → AllByRecursion (λ g. IsScope g.0 × AreGroup path_cmp IsPath IsEntry g.1) gs
    → length (flat_map (pair scope (pairs path entry)) gs) ≤ total entry_weight (flattened gs)
scopes_short [] each = omega arith
scopes_short (g ∷ gs) each =
    let rest = scopes_short gs each.1 in
    let a = scope_short g.0 each.0.0 in
    let b = ten (length g.1) in
    let c = own_short g.1 each.0.1.pairs.each in
    let some = each.0.1.some in
    let list = length-append (number (length g.1)) (flat_map (pair path entry) g.1) in
    let one = length-append (scope g.0) (pairs path entry g.1) in
    let all = ap length (flat_map-cons (pair scope (pairs path entry)) g gs) ∙ length-append (pair scope (pairs path entry) g) (flat_map (pair scope (pairs path entry)) gs) in
    let sum = total_append (placed g.0 g.1) (flattened gs) in
    let own = total_placed g.0 g.1 in
    omega (arith, rest, a, b, c, some, list, one, all, sum, own)

piece_short : (s : EntryMap) → HasSpelling s → length (piece s) ≤ 10 + piece_weight s
piece_short s is =
    let gs = parted (finmap.entries s) in
    let a = ten (length gs) in
    let b = scopes_short gs is.each in
    let same : total entry_weight (flattened gs) ≡ piece_weight s = ap (total entry_weight) (flattened-parted (finmap.entries s)) in
    let parts = length-append (number (length gs)) (flat_map (pair scope (pairs path entry)) gs) in
    omega (arith, a, b, same, parts)

-- ---- frames

pub are_short : AreShort
are_short f is few =
    let g = parts_of f in
    let ps = chain_short print print_tells IsPrint print_weight print_short None g.prints is.prints.each in
    let xs = chain_short ask ask_tells IsFewAsk ask_weight ask_short None g.asks (few_asks None g.asks is.asks.each few) in
    let s = piece_short g.piece is.piece in
    let count = ten (length g.prints) in
    let more = ten (length g.asks) in
    let listed = length-append (number (length g.prints)) (chain print print_tells None g.prints) in
    let asked = length-append (number (length g.asks)) (chain ask ask_tells None g.asks) in
    let told = length-append (prints g.prints) (asks g.asks) in
    let end = length-append (piece g.piece) (flag g.more) in
    let both = length-append (prints g.prints ++ asks g.asks) (piece g.piece ++ flag g.more) in
    let all = length-append (hello g.hello) ((prints g.prints ++ asks g.asks) ++ (piece g.piece ++ flag g.more)) in
    let headed = length-append (head 4) (fields g) in
    let summed = length-append (frame_covered g) (sha256 (frame_covered g)) in
    let sum = length-sha256 (frame_covered g) in
    omega (arith, ps, xs, s, count, more, listed, asked, told, end, both, all, headed, summed, sum)

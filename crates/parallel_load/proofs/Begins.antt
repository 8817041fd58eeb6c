-- Each component of a unit's footprint begins as one of its names does.
use Rattle.std.proofs.Common.{◌++◌, ◌∷◌, ◌≡◌, ◌⊎◌}
use Rattle.unit_name.specs.declared.kinds.Kind.TheVariants.{Target}
use Rattle.parallel_load.proofs.Prelude.{[], All, all_among, among_firsts, among_flat_map, among_map, ap, append_assoc, Automount, BeginsWith, codes, contains_from_among, cuts, cuts_are_dashed_prefixes, Device, dirs_with, drop, ending, ends_somewhere, EndsInDash, false, flat_map, folders, folders_are_names, folders_of, footprint, get_or, HasNoStop, inl, inr, Instance, instance, is_dot, is_empty, is_stop, IsAmong, IsAmong-append_cases, IsDashedPrefix, IsName, IsOfNoType, IsSearchPrefixOf, Kind, List, list_any, listed, made_of_name, map, Mount, Name, name_dirs, name_with, names_are_their_parts, None, none-some, Option, or_left, or_parts, or_right, Path, Plain, prefix, prefixes_may_be_cut, refl, Requires, same_Some, Scope, Service, Shape, shape, Slice, Socket, Some, subst, suffix, suffix_is_word, Swap, sym, Template, template_at, template_name, template_of, Timer, true, true≢false, type_dirs, types_of, unit_folders, Wants, with_prefix, with_template, word, ℕ, ◌∙◌}

-- The part is some bytes and a stop after them. The name begins with these bytes and the stop, or with the bytes alone,
-- which then end in a dash.
pub record BothBegin (part n : List ℕ) : Type 0 where
  search_prefix : List ℕ
  stop : ℕ
  rest : List ℕ
  others : List ℕ
  stopped : is_stop stop ≡ true
  part_is : part ≡ search_prefix ++ stop ∷ rest
  name_is : n ≡ search_prefix ++ others
  then : ((more : List ℕ) × (others ≡ stop ∷ more)) ⊎ EndsInDash search_prefix

-- ---- what begins alike begins with the part's prefix

-- if a list is cut at a stop and also at its first stop, the second cut is the same or comes earlier
cut_first : (x y : List ℕ) (a b : ℕ) (r q : List ℕ) → HasNoStop x → is_stop b ≡ true → x ++ a ∷ r ≡ y ++ b ∷ q → ((x ≡ y) × (a ≡ b)) ⊎ ((more : List ℕ) × (y ≡ x ++ a ∷ more))
cut_first [] [] a b r q plain stopped e = inl (refl, ap (λ (l : List ℕ). get_or l 0 a) e)
cut_first [] (c ∷ ys) a b r q plain stopped e = inr (ys, ap (λ (z : ℕ). z ∷ ys) (sym (ap (λ (l : List ℕ). get_or l 0 a) e)))
cut_first (c ∷ xs) [] a b r q plain stopped e =
    let same : c ≡ b = ap (λ (l : List ℕ). get_or l 0 c) e in
    absurd (true≢false (sym stopped ∙ ap is_stop (sym same) ∙ (or_parts (is_stop c) (list_any is_stop xs) plain).0))
cut_first (c ∷ xs) (d ∷ ys) a b r q plain stopped e =
    by (cut_first xs ys a b r q (or_parts (is_stop c) (list_any is_stop xs) plain).1 stopped (ap (drop 1) e))
  where
    same : c ≡ d
    same = ap (λ (l : List ℕ). get_or l 0 c) e

    by : ((xs ≡ ys) × (a ≡ b)) ⊎ ((more : List ℕ) × (ys ≡ xs ++ a ∷ more)) → ((c ∷ xs ≡ d ∷ ys) × (a ≡ b)) ⊎ ((more : List ℕ) × (d ∷ ys ≡ c ∷ xs ++ a ∷ more))
    by (inl h) = inl (ap (λ (l : List ℕ). c ∷ l) h.0 ∙ ap (λ (z : ℕ). z ∷ ys) same, h.1)
    by (inr h) = inr (h.0, ap (λ (l : List ℕ). d ∷ l) h.1 ∙ ap (λ (z : ℕ). z ∷ xs ++ a ∷ h.0) (sym same))

pub search_prefix_begins : (part search_prefix n : List ℕ) → IsSearchPrefixOf part search_prefix → BothBegin part n → BeginsWith search_prefix n
search_prefix_begins part search_prefix n f b = by (cut_first f.before b.search_prefix f.stop b.stop f.rest b.rest f.plain b.stopped (sym f.is ∙ b.part_is)) f.search_prefix_is b.then
  where
    -- the name begins with the prefix and its stop, or with the prefix alone
    with_stop : (z : List ℕ) → n ≡ f.before ++ f.stop ∷ z → ((search_prefix ≡ f.before) × EndsInDash f.before) ⊎ ((search_prefix ≡ f.before ++ f.stop ∷ []) × ¬ EndsInDash f.before) → BeginsWith search_prefix n
    with_stop z e (inl h) = record { rest = f.stop ∷ z; is = e ∙ ap (λ (l : List ℕ). l ++ f.stop ∷ z) (sym h.0) }
    with_stop z e (inr h) = record { rest = z; is = e ∙ sym (append_assoc f.before (f.stop ∷ []) z) ∙ ap (λ (l : List ℕ). l ++ z) (sym h.0) }

    by : ((f.before ≡ b.search_prefix) × (f.stop ≡ b.stop)) ⊎ ((more : List ℕ) × (b.search_prefix ≡ f.before ++ f.stop ∷ more))
        → ((search_prefix ≡ f.before) × EndsInDash f.before) ⊎ ((search_prefix ≡ f.before ++ f.stop ∷ []) × ¬ EndsInDash f.before) → ((more : List ℕ) × (b.others ≡ b.stop ∷ more)) ⊎ EndsInDash b.search_prefix
        → BeginsWith search_prefix n
    by (inr h) is then =
        with_stop (h.0 ++ b.others) (b.name_is ∙ ap (λ (l : List ℕ). l ++ b.others) h.1 ∙ append_assoc f.before (f.stop ∷ h.0) b.others) is
    by (inl h) is (inl m) =
        with_stop m.0 (b.name_is ∙ ap (λ (l : List ℕ). l ++ b.others) (sym h.0) ∙ ap (λ (l : List ℕ). f.before ++ l) m.1 ∙ ap (λ (z : ℕ). f.before ++ z ∷ m.0) (sym h.1)) is
    by (inl h) (inl k) (inr d) = record { rest = b.others; is = b.name_is ∙ ap (λ (l : List ℕ). l ++ b.others) (sym h.0 ∙ sym k.0) }
    by (inl h) (inr k) (inr d) = absurd (k.1 (subst EndsInDash (sym h.0) d))

-- ---- what is after a prefix

record IsAfter (p x : List ℕ) : Type 0 where
  stop : ℕ
  rest : List ℕ
  stopped : is_stop stop ≡ true
  is : x ≡ p ++ stop ∷ rest

after : (s : Shape) (p i k : List ℕ) → IsAfter p (name_with s p i k)
after Plain p i k = record { stop = 46; rest = k; stopped = refl; is = refl }
after Template p i k = record { stop = 64; rest = 46 ∷ k; stopped = refl; is = refl }
after Instance p i k = record { stop = 64; rest = i ++ 46 ∷ k; stopped = refl; is = append_assoc p (64 ∷ i) (46 ∷ k) }

own_after : (n : Name) → IsName n → IsAfter (prefix n) n
own_after n h =
    let b = after (shape n) (prefix n) (instance n) (suffix n) in
    record { stop = b.stop; rest = b.rest; stopped = b.stopped; is = sym (names_are_their_parts n h) ∙ b.is }

-- ---- the folders of a name

own_begins : (n : Name) → IsName n → BothBegin n n
own_begins n h =
    let b = own_after n h in
    record { search_prefix = prefix n; stop = b.stop; rest = b.rest; others = b.stop ∷ b.rest; stopped = b.stopped; part_is = b.is; name_is = b.is; then = inl (b.rest, refl) }

template_begins : (n : Name) (g : Name) → IsName n → template_of n ≡ Some g → BothBegin g n
template_begins n g h e = by (shape n) refl e
  where
    made : shape n ≡ Instance → g ≡ template_name (prefix n) (suffix n) → BothBegin g n
    made s t = record {
      search_prefix = prefix n;
      stop = 64;
      rest = 46 ∷ suffix n;
      others = 64 ∷ instance n ++ 46 ∷ suffix n;
      stopped = refl;
      part_is = t;
      name_is = sym (names_are_their_parts n h) ∙ ap (λ (sh : Shape). name_with sh (prefix n) (instance n) (suffix n)) s ∙ append_assoc (prefix n) (64 ∷ instance n) (46 ∷ suffix n);
      then = inl (instance n ++ 46 ∷ suffix n, refl);
    }

    by : (s : Shape) → shape n ≡ s → template_at s n ≡ Some g → BothBegin g n
    by Plain s t = absurd (none-some _ t)
    by Template s t = absurd (none-some _ t)
    by Instance s t = made s (sym (same_Some _ _ t))

-- a name with a cut of its prefix, and that name's template
module _ (n : Name) (h : IsName n) (c : List ℕ) (f : IsDashedPrefix (prefix n) c) where
  begins_with_cut : (g : Name) (stop : ℕ) (rest : List ℕ) → is_stop stop ≡ true → g ≡ c ++ stop ∷ rest → BothBegin g n
  begins_with_cut g stop rest stopped e =
      let b = own_after n h in
      record {
        search_prefix = c;
        stop = stop;
        rest = rest;
        others = f.next ∷ f.rest ++ b.stop ∷ b.rest;
        stopped = stopped;
        part_is = e;
        name_is = b.is ∙ ap (λ (w : List ℕ). w ++ b.stop ∷ b.rest) f.proper ∙ append_assoc c (f.next ∷ f.rest) (b.stop ∷ b.rest);
        then = inr (record { start = f.start; is = f.ends_in_dash });
      }

  cut_begins : BothBegin (with_prefix n c) n
  cut_begins =
      let b = after (shape n) c (instance n) (suffix n) in
      begins_with_cut (with_prefix n c) b.stop b.rest b.stopped b.is

  cut_template_begins : (g : Name) → template_of (with_prefix n c) ≡ Some g → BothBegin g n
  cut_template_begins g e =
      let full : is_empty c ≡ false = ap is_empty f.ends_in_dash ∙ ends_somewhere f.start 45 in
      let parts = (prefixes_may_be_cut n c (f.next ∷ f.rest) h f.proper full).2 in
      by parts.prefix_is (shape (with_prefix n c)) e
    where
      by : prefix (with_prefix n c) ≡ c → (s : Shape) → template_at s (with_prefix n c) ≡ Some g → BothBegin g n
      by same Plain t = absurd (none-some _ t)
      by same Template t = absurd (none-some _ t)
      by same Instance t =
          begins_with_cut g 64 (46 ∷ suffix (with_prefix n c)) refl
          (sym (same_Some _ _ t) ∙ ap (λ (p : List ℕ). template_name p (suffix (with_prefix n c))) same)

pub listed_is : (g : Name) (o : Option Name) → IsAmong g (listed o) → o ≡ Some g
listed_is g None h = absurd h
listed_is g (Some x) (inl e) = ap Some e
listed_is g (Some x) (inr h) = absurd h

with_template_begins : (n : Name) → IsName n → (g : Name) → IsAmong g (with_template n) → BothBegin g n
with_template_begins n h g (inl e) = subst (λ (x : Name). BothBegin x n) e (own_begins n h)
with_template_begins n h g (inr a) = template_begins n g h (listed_is g (template_of n) a)

folder_begins : (n : Name) → IsName n → (g : Name) → IsAmong g (folders_of n) → BothBegin g n
folder_begins n h g a = by (IsAmong-append_cases g (with_template n) (flat_map (λ p. with_template (with_prefix n p)) (cuts (prefix n))) a)
  where
    cut : (c : List ℕ) → IsDashedPrefix (prefix n) c → IsAmong g (with_template (with_prefix n c)) → BothBegin g n
    cut c f (inl e) = subst (λ (x : Name). BothBegin x n) e (cut_begins n h c f)
    cut c f (inr k) = cut_template_begins n h c f g (listed_is g (template_of (with_prefix n c)) k)

    by : IsAmong g (with_template n) ⊎ IsAmong g (flat_map (λ p. with_template (with_prefix n p)) (cuts (prefix n))) → BothBegin g n
    by (inl k) = with_template_begins n h g k
    by (inr k) =
        let r = among_flat_map (λ p. with_template (with_prefix n p)) (cuts (prefix n)) g k in
        cut r.source ((cuts_are_dashed_prefixes (prefix n) r.source).0 (contains_from_among r.source (cuts (prefix n)) r.there)) r.makes

-- with an ending
ended : (g n end : List ℕ) → BothBegin g n → BothBegin (g ++ end) n
ended g n end b = record {
  search_prefix = b.search_prefix;
  stop = b.stop;
  rest = b.rest ++ end;
  others = b.others;
  stopped = b.stopped;
  part_is = ap (λ (w : List ℕ). w ++ end) b.part_is ∙ append_assoc b.search_prefix (b.stop ∷ b.rest) end;
  name_is = b.name_is;
  then = b.then;
}

-- ---- types

no_dot : (k : Kind) → list_any is_dot (word k) ≡ false
no_dot Service = refl
no_dot Socket = refl
no_dot Device = refl
no_dot Mount = refl
no_dot Automount = refl
no_dot Swap = refl
no_dot Target = refl
no_dot Path = refl
no_dot Timer = refl
no_dot Slice = refl
no_dot Scope = refl

type_has_no_dot : (n : Name) → IsName n → list_any is_dot (suffix n) ≡ false
type_has_no_dot n h = let m = made_of_name n h in ap (list_any is_dot) (suffix_is_word n m.0 m.1) ∙ no_dot m.0

-- ---- the footprint

-- one of these names begins as the part does
pub record OneBegins (part : List ℕ) (names : List Name) : Type 0 where
  name : Name
  there : IsAmong name names
  alike : BothBegin part name

module _ (part : List ℕ) (names : List Name) (typeless : IsOfNoType part) (well_formed : All IsName names) where
  -- a folder of these names with an ending
  dir_begins : (end : List ℕ) → IsAmong part (dirs_with end (folders names)) → OneBegins part names
  dir_begins end a =
      let r = among_map (λ (n : Name). n ++ end) (folders names) part a in
      let q = among_flat_map folders_of names r.source (among_firsts r.source (flat_map folders_of names) r.there) in
      record {
        name = q.source;
        there = q.there;
        alike =
            subst (λ (x : List ℕ). BothBegin x q.source) r.makes
            (ended r.source q.source end (folder_begins q.source (all_among IsName names q.source well_formed q.there) r.source q.makes));
      }

  -- it is no type's
  no_type : IsAmong part (type_dirs (folders names)) → ⊥
  no_type a =
      let r = among_map (λ (n : Name). n ++ codes ".d") (types_of (folders names)) part a in
      let q = among_map suffix (folders names) r.source (among_firsts r.source (map suffix (folders names)) r.there) in
      let name = all_among IsName (folders names) q.source (folders_are_names names well_formed) q.there in
      true≢false (sym (typeless r.source (sym r.makes)) ∙ ap (list_any is_dot) (sym q.makes) ∙ type_has_no_dot q.source name)

  unit_folder_begins : IsAmong part (unit_folders names) → OneBegins part names
  unit_folder_begins a = by (IsAmong-append_cases part (name_dirs (folders names)) _ a)
    where
      last : IsAmong part (dirs_with (ending Wants) (folders names)) ⊎ IsAmong part (dirs_with (ending Requires) (folders names)) → OneBegins part names
      last (inl k) = dir_begins (ending Wants) k
      last (inr k) = dir_begins (ending Requires) k

      more : IsAmong part (type_dirs (folders names)) ⊎ IsAmong part (dirs_with (ending Wants) (folders names) ++ dirs_with (ending Requires) (folders names)) → OneBegins part names
      more (inl k) = absurd (no_type k)
      more (inr k) = last (IsAmong-append_cases part (dirs_with (ending Wants) (folders names)) (dirs_with (ending Requires) (folders names)) k)

      by : IsAmong part (name_dirs (folders names))
          ⊎ IsAmong part (type_dirs (folders names) ++ (dirs_with (ending Wants) (folders names) ++ dirs_with (ending Requires) (folders names))) → OneBegins part names
      by (inl k) = dir_begins (codes ".d") k
      by (inr k) = more (IsAmong-append_cases part (type_dirs (folders names)) (dirs_with (ending Wants) (folders names) ++ dirs_with (ending Requires) (folders names)) k)

  -- what is in the footprint begins as the name does, or as another of the unit's
  pub footprint_begins : (name : Name) → IsName name → IsAmong part (footprint name names) → OneBegins part (name ∷ names)
  footprint_begins name own a = by (IsAmong-append_cases part (with_template name) (unit_folders names) a)
    where
      by : IsAmong part (with_template name) ⊎ IsAmong part (unit_folders names) → OneBegins part (name ∷ names)
      by (inl k) = record { name = name; there = inl refl; alike = with_template_begins name own part k }
      by (inr k) = let o = unit_folder_begins k in record { name = o.name; there = inr o.there; alike = o.alike }

-- so one of the unit's names begins with the part's prefix
pub names_begin : (part search_prefix : List ℕ) (name : Name) (names : List Name) → IsSearchPrefixOf part search_prefix → IsOfNoType part → IsName name → All IsName names → IsAmong part (footprint name names)
    → (m : Name) × (IsAmong m (name ∷ names) × BeginsWith search_prefix m)
names_begin part search_prefix name names f typeless own well_formed a =
    let o = footprint_begins part names typeless well_formed name own a in
    (o.name, (o.there, search_prefix_begins part search_prefix o.name f o.alike))

-- and no footprint has a part without a stop
pub stopless : (part : List ℕ) (name : Name) (names : List Name) → HasNoStop part → IsOfNoType part → IsName name → All IsName names → ¬ IsAmong part (footprint name names)
stopless part name names none typeless own well_formed a =
    let o = footprint_begins part names typeless well_formed name own a in
    true≢false (sym (has_stop o.alike.search_prefix o.alike.stop o.alike.rest o.alike.stopped) ∙ ap (list_any is_stop) (sym o.alike.part_is) ∙ none)
  where
    has_stop : (x : List ℕ) (b : ℕ) (q : List ℕ) → is_stop b ≡ true → list_any is_stop (x ++ b ∷ q) ≡ true
    has_stop [] b q e = or_left (is_stop b) (list_any is_stop q) e
    has_stop (c ∷ x) b q e = or_right (is_stop c) (list_any is_stop (x ++ b ∷ q)) (has_stop x b q e)

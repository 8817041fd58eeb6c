-- Laws of names: their form, and their parts.
use Rattle.std.proofs.Common.{if◌then◌else◌, ◌++◌, ◌-◌, ◌<◌, ◌||◌, ◌↔◌, ◌∷◌, ◌≡◌, ◌≤◌, ◌⊎◌}
use Rattle.unit_name.specs.Prelude.{[], after_first, and_from, and_parts, ap, append-nil, append_assoc, arith, before_first, Bool, bytes_eq, bytes_eq-Decides, cases_lt, cond, cond-false, cond-true, cond_some, Decides, drop, eq_by_cmp, eqb-true, Equal, Err, false, Greater, inl, inr, is_eq, is_none, is_ok, IsAntisymmetric, le-leb, le-ltb, leb, leb-true, length, length-append, Less, List, list_all, list_all-append, list_any, list_any-append, ltb, ltb-false, nat_cmp-IsAntisymmetric, nat_list_cmp_total, None, none-some, not, not-false, not-true, Ok, Option, or_from, or_parts, or_right, Ordering, passes_at_first, refl, Result, same_Some, slice_cmp-IsAntisymmetric, Some, split_at_first, subst, suffix_len, sym, take_while-cons, tied_itself, true, true≢false, ℕ, ◌∙◌}
use Rattle.unit_name.specs.{declared.{kinds.Kind.{Kind, TheVariants.{Automount, Device, Mount, Path, Scope, Service, Slice, Socket, Swap, Target, Timer}}, names.{NameFault.{NameFault, TheVariants.{EmptyPrefix, Kind as NoKind, Length}}, Shape.{Shape, TheVariants.{Instance, Plain, Template}}}}, Forms.{if_short, instance_at, instance_name, is_instance, name_with, template_at, template_name, template_of, with_instance}, Names.{bad_place, instance, is_at, is_dot, is_empty, is_name_byte, IsName, kind, kind_of, kinds, Name, name_cmp, name_of, prefix, shape, stem, suffix, unless_bad, word}, PartLaws.{after_first_none, after_first_put, after_last_put, all_append, all_drop, all_take, any_fails, before_first_all, before_first_fails, before_first_put, before_last_put, find_passes, none_passes, place_within, position_none, split_at_last}}

-- a stem may begin like this: it isn't empty and its first byte isn't an at sign
abbrev pub begins_well : List ℕ → Bool
begins_well [] = false
begins_well (b ∷ bs) = not (is_at b)

-- a name is a stem, a dot and a kind's suffix; the stem has only bytes allowed in names and begins well; together at
-- most 255 bytes
pub record IsMadeOf (n s : List ℕ) (k : Kind) : Type 0 where
  pub made : n ≡ s ++ 46 ∷ word k
  pub begins : begins_well s ≡ true
  pub bytes : list_all is_name_byte s ≡ true
  pub short : length n ≤ 255

-- names are exactly what can be made of a stem and a kind
abbrev pub NamesAreMade : Type 0
NamesAreMade = (n : List ℕ) → IsName n ↔ ((s : List ℕ) × (k : Kind) × IsMadeOf n s k)

-- the tests, in order
tested : Bool → Bool → Bool → Option ℕ → Name → Result Name NameFault
tested t u v o n = if t then Err Length else if u then Err NoKind else if v then Err EmptyPrefix else unless_bad o n

pub record ArePassed (t u v : Bool) (o : Option ℕ) : Type 0 where
  first : t ≡ false
  second : u ≡ false
  third : v ≡ false
  last : o ≡ None

passed : (t u v : Bool) (o : Option ℕ) (n : Name) → is_ok (tested t u v o n) ≡ true → ArePassed t u v o
unfolding tested
passed true u v o n h = cc
passed false true v o n h = cc
passed false false true o n h = cc
passed false false false None n h = record { first = refl; second = refl; third = refl; last = refl }
passed false false false (Some at) n h = cc

passes : (t u v : Bool) (o : Option ℕ) (n : Name) → ArePassed t u v o → tested t u v o n ≡ Ok n
unfolding tested
passes t u v o n h =
    cond-false t _ _ h.first ∙ cond-false u _ _ h.second ∙ cond-false v _ _ h.third ∙ ap (λ p. unless_bad p n) h.last

name_of_is : (n : Name) → name_of n ≡ tested (is_empty n || ltb 255 (length n)) (is_none (kind n)) (is_empty (prefix n))
    (bad_place (stem n)) n
unfolding name_of tested
name_of_is n = refl

has_dot : (s w : List ℕ) → list_any is_dot (s ++ 46 ∷ w) ≡ true
has_dot s w = list_any-append is_dot s (46 ∷ w) ∙ or_right (list_any is_dot s) true refl

word_dotless : (k : Kind) → list_all (λ b. not (is_dot b)) (word k) ≡ true
word_dotless Service = refl
word_dotless Socket = refl
word_dotless Device = refl
word_dotless Mount = refl
word_dotless Automount = refl
word_dotless Swap = refl
word_dotless Target = refl
word_dotless Path = refl
word_dotless Timer = refl
word_dotless Slice = refl
word_dotless Scope = refl

-- the kind of a kind's suffix is that kind
pub kind_of-word : (k : Kind) → kind_of (word k) ≡ Some k
unfolding kind_of
kind_of-word Service = refl
kind_of-word Socket = refl
kind_of-word Device = refl
kind_of-word Mount = refl
kind_of-word Automount = refl
kind_of-word Swap = refl
kind_of-word Target = refl
kind_of-word Path = refl
kind_of-word Timer = refl
kind_of-word Slice = refl
kind_of-word Scope = refl

pub word_of_kind : (w : List ℕ) (k : Kind) → kind_of w ≡ Some k → w ≡ word k
unfolding kind_of
word_of_kind w k h = sym ((bytes_eq-Decides (word k) w).0 (find_passes (λ j. bytes_eq (word j) w) kinds k h))

-- the parts of a stem, a dot and a kind's suffix
pub stem_of_made : (s : List ℕ) (k : Kind) → stem (s ++ 46 ∷ word k) ≡ s
stem_of_made s k = before_last_put is_dot s 46 (word k) (word_dotless k) refl

pub suffix_of_made : (s : List ℕ) (k : Kind) → suffix (s ++ 46 ∷ word k) ≡ word k
suffix_of_made s k = after_last_put is_dot s 46 (word k) (word_dotless k) refl

pub kind_of_made : (s : List ℕ) (k : Kind) → kind (s ++ 46 ∷ word k) ≡ Some k
kind_of_made s k = cond-true _ _ _ (has_dot s (word k)) ∙ ap kind_of (suffix_of_made s k) ∙ kind_of-word k

prefix_begins : (s : List ℕ) → is_empty (before_first is_at s) ≡ not (begins_well s)
prefix_begins [] = refl
prefix_begins (x ∷ xs) = ap is_empty (take_while-cons (λ b. not (is_at b)) x xs) ∙ step (not (is_at x))
  where
    step : (t : Bool) → is_empty (cond t (x ∷ before_first is_at xs) []) ≡ not t
    step true = refl
    step false = refl

no_bad_place : (s : List ℕ) → list_all is_name_byte s ≡ true → bad_place s ≡ None
no_bad_place s h = position_none (λ b. not (is_name_byte b)) s (any_fails is_name_byte s ∙ ap not h)

all_good : (s : List ℕ) → bad_place s ≡ None → list_all is_name_byte s ≡ true
all_good s h = not-false _ (sym (any_fails is_name_byte s) ∙ none_passes (λ b. not (is_name_byte b)) s h)

not_empty : (s w : List ℕ) → is_empty (s ++ 46 ∷ w) ≡ false
not_empty [] w = refl
not_empty (x ∷ s) w = refl

-- what is made of a stem and a kind is a name
pub name_of-made : (n s : List ℕ) (k : Kind) → IsMadeOf n s k → name_of n ≡ Ok n
name_of-made n s k m =
    let e : stem n ≡ s = ap stem m.made ∙ stem_of_made s k in
    let p : ArePassed (is_empty n || ltb 255 (length n)) (is_none (kind n)) (is_empty (prefix n)) (bad_place (stem n)) = record {
      first = or_from _ _ (ap is_empty m.made ∙ not_empty s (word k)) (le-ltb _ _ m.short);
      second = ap is_none (ap kind m.made ∙ kind_of_made s k);
      third = ap (λ x. is_empty (before_first is_at x)) e ∙ prefix_begins s ∙ ap not m.begins;
      last = ap bad_place e ∙ no_bad_place s m.bytes;
    } in
    name_of_is n ∙ passes _ _ _ _ n p

some_kind : (o : Option Kind) → is_none o ≡ false → (k : Kind) × (o ≡ Some k)
some_kind None h = cc
some_kind (Some k) h = (k, refl)

kind_parts : (n : Name) (k : Kind) → kind n ≡ Some k → (list_any is_dot n ≡ true) × (kind_of (suffix n) ≡ Some k)
kind_parts n k h = step (list_any is_dot n) refl h
  where
    step : (t : Bool) → list_any is_dot n ≡ t → cond t (kind_of (suffix n)) None ≡ Some k
        → (list_any is_dot n ≡ true) × (kind_of (suffix n) ≡ Some k)
    step true e s = (e, s)
    step false e s = absurd (none-some _ s)

dotless_any : (p : ℕ → Bool) (xs : List ℕ) → list_all (λ b. not (p b)) xs ≡ true → list_any p xs ≡ false
dotless_any p [] h = refl
dotless_any p (x ∷ xs) h = let s = and_parts (not (p x)) (list_all (λ b. not (p b)) xs) h in or_from _ _ (not-true _ s.0) (dotless_any p xs s.1)

-- a suffix has no dot, so bytes with a dot are more than the suffix
more_than_word : (n : Name) (k : Kind) → list_any is_dot n ≡ true → suffix n ≡ word k → suffix_len (λ b. not (is_dot b)) n < length n
more_than_word n k d w = step (cases_lt (suffix_len (λ b. not (is_dot b)) n) (length n))
  where
    whole : length n ≤ suffix_len (λ b. not (is_dot b)) n → n ≡ word k
    whole le = let z : length n - suffix_len (λ b. not (is_dot b)) n ≡ 0 = omega arith in sym (ap (λ m. drop m n) z) ∙ w

    step : (suffix_len (λ b. not (is_dot b)) n < length n) ⊎ (length n ≤ suffix_len (λ b. not (is_dot b)) n)
        → suffix_len (λ b. not (is_dot b)) n < length n
    step (inl lt) = lt
    step (inr le) = absurd (true≢false (sym d ∙ ap (list_any is_dot) (whole le) ∙ dotless_any is_dot (word k) (word_dotless k)))

is_dot_only : (b : ℕ) → is_dot b ≡ true → b ≡ 46
is_dot_only b h = eqb-true b 46 h

is_at_only : (b : ℕ) → is_at b ≡ true → b ≡ 64
is_at_only b h = eqb-true b 64 h

-- a name is made of its stem and its kind
pub made_of_name : (n : Name) → IsName n → (k : Kind) × (kind n ≡ Some k) × IsMadeOf n (stem n) k
made_of_name n h = step (some_kind (kind n) passed_all.second)
  where
    passed_all : ArePassed (is_empty n || ltb 255 (length n)) (is_none (kind n)) (is_empty (prefix n)) (bad_place (stem n))
    passed_all = passed _ _ _ _ n (sym (ap is_ok (name_of_is n)) ∙ h)

    step : (k : Kind) × (kind n ≡ Some k) → (k : Kind) × (kind n ≡ Some k) × IsMadeOf n (stem n) k
    step (k, e) =
        let d = kind_parts n k e in
        let w : suffix n ≡ word k = word_of_kind (suffix n) k d.1 in (
          k,
          e,
          record {
            made = split_at_last is_dot 46 n is_dot_only (more_than_word n k d.0 w) ∙ ap (λ x. stem n ++ 46 ∷ x) w;
            begins = not-false _ (sym (prefix_begins (stem n)) ∙ passed_all.third);
            bytes = all_good (stem n) passed_all.last;
            short = ltb-false 255 (length n) (or_parts _ _ passed_all.first).1;
          },
        )

pub names_are_made : NamesAreMade
names_are_made n = (there, back)
  where
    there : IsName n → (s : List ℕ) × (k : Kind) × IsMadeOf n s k
    there h = let m = made_of_name n h in (stem n, m.0, m.2)

    back : (s : List ℕ) × (k : Kind) × IsMadeOf n s k → IsName n
    back (s, k, m) = ap is_ok (name_of-made n s k m)

-- valid parts of a name: the prefix isn't empty and has no at sign, and only instances have an instance
abbrev pub fits : Shape → List ℕ → Bool
fits Plain i = is_empty i
fits Template i = is_empty i
fits Instance i = is_instance i

pub record AreParts (s : Shape) (p i : List ℕ) : Type 0 where
  pub prefix_there : is_empty p ≡ false
  pub prefix_plain : list_all (λ b. not (is_at b)) p ≡ true
  pub prefix_bytes : list_all is_name_byte p ≡ true
  pub instance_fits : fits s i ≡ true

-- a name with these parts
pub record HasParts (n : Name) (s : Shape) (p i : List ℕ) (k : Kind) : Type 0 where
  pub name : IsName n
  pub shape_is : shape n ≡ s
  pub prefix_is : prefix n ≡ p
  pub instance_is : instance n ≡ i
  pub suffix_is : suffix n ≡ word k
  pub kind_is : kind n ≡ Some k

-- putting valid parts together gives a name with these parts, if it isn't too long
abbrev pub PartsMakeNames : Type 0
PartsMakeNames = (s : Shape) (p i : List ℕ) (k : Kind) → AreParts s p i → length (name_with s p i (word k)) ≤ 255 → HasParts (name_with s p i (word k)) s p i k

-- the parts of a name are valid
abbrev pub PartsOfNamesFit : Type 0
PartsOfNamesFit = (n : Name) → IsName n → AreParts (shape n) (prefix n) (instance n)

-- putting the parts of a name together gives the name
abbrev pub NamesAreTheirParts : Type 0
NamesAreTheirParts = (n : Name) → IsName n → name_with (shape n) (prefix n) (instance n) (suffix n) ≡ n

empty_is : (xs : List ℕ) → is_empty xs ≡ true → xs ≡ []
empty_is [] h = refl
empty_is (x ∷ xs) h = cc

begins_with : (p w : List ℕ) → is_empty p ≡ false → list_all (λ b. not (is_at b)) p ≡ true → begins_well (p ++ w) ≡ true
begins_with [] w h t = cc
begins_with (x ∷ p) w h t = (and_parts _ _ t).0

-- a name made of valid parts around a stem
has_parts : (s : Shape) (p i st : List ℕ) (k : Kind) (n : Name) → AreParts s p i → n ≡ st ++ 46 ∷ word k → length n ≤ 255
    → begins_well st ≡ true → list_all is_name_byte st ≡ true → shape n ≡ s → before_first is_at st ≡ p
    → after_first is_at st ≡ i → HasParts n s p i k
has_parts s p i st k n a made short begins bytes sh pre ins =
    let e : stem n ≡ st = ap stem made ∙ stem_of_made st k in
    record {
      name = ap is_ok (name_of-made n st k (record { made = made; begins = begins; bytes = bytes; short = short }));
      shape_is = sh;
      prefix_is = ap (before_first is_at) e ∙ pre;
      instance_is = ap (after_first is_at) e ∙ ins;
      suffix_is = ap suffix made ∙ suffix_of_made st k;
      kind_is = ap kind made ∙ kind_of_made st k;
    }

has_at : (p i : List ℕ) → list_any is_at (p ++ 64 ∷ i) ≡ true
has_at p i = list_any-append is_at p (64 ∷ i) ∙ or_right (list_any is_at p) true refl

shape_of : (st : List ℕ) → Shape
shape_of st = if not (list_any is_at st) then Plain else if is_empty (after_first is_at st) then Template else Instance

shape_is_of : (n st : Name) → stem n ≡ st → shape n ≡ shape_of st
unfolding shape_of
shape_is_of n st e = ap (λ x. if not (list_any is_at x) then Plain else if is_empty (after_first is_at x) then Template else Instance) e

shape_at : (st : List ℕ) (t u : Bool) → list_any is_at st ≡ t → is_empty (after_first is_at st) ≡ u
    → shape_of st ≡ (if not t then Plain else if u then Template else Instance)
unfolding shape_of
shape_at st t u e f = ap (λ b. if not b then Plain else if is_empty (after_first is_at st) then Template else Instance) e ∙ ap (λ b. if not t then Plain else if b then Template else Instance) f

at_good : is_name_byte 64 ≡ true
unfolding is_name_byte
at_good = refl

pub parts_make_names : PartsMakeNames
parts_make_names Plain p i k a short =
    let n = name_with Plain p i (word k) in
    let no : list_any is_at p ≡ false = dotless_any is_at p a.prefix_plain in
    let nothing : after_first is_at p ≡ i = after_first_none is_at p no ∙ sym (empty_is i a.instance_fits) in
    has_parts Plain p i p k n a refl short (ap begins_well (sym (append-nil p)) ∙ begins_with p [] a.prefix_there a.prefix_plain) a.prefix_bytes
    (shape_is_of n p (stem_of_made p k) ∙ shape_at p false (is_empty (after_first is_at p)) no refl)
    (before_first_all is_at p no) nothing
parts_make_names Template p i k a short =
    let n = name_with Template p i (word k) in
    let st : List ℕ = p ++ 64 ∷ [] in
    let made : n ≡ st ++ 46 ∷ word k = sym (append_assoc p (64 ∷ []) (46 ∷ word k)) in
    let nothing : after_first is_at st ≡ [] = after_first_put is_at p 64 [] a.prefix_plain refl in
    has_parts Template p i st k n a made short (begins_with p (64 ∷ []) a.prefix_there a.prefix_plain) (all_append is_name_byte p (64 ∷ []) a.prefix_bytes (and_from _ _ at_good refl))
    (shape_is_of n st (ap stem made ∙ stem_of_made st k) ∙ shape_at st true true (has_at p []) (ap is_empty nothing))
    (before_first_put is_at p 64 [] a.prefix_plain refl) (nothing ∙ sym (empty_is i a.instance_fits))
parts_make_names Instance p i k a short =
    let n = name_with Instance p i (word k) in
    let st : List ℕ = p ++ 64 ∷ i in
    let f = and_parts (not (is_empty i)) (list_all is_name_byte i) a.instance_fits in
    let rest : after_first is_at st ≡ i = after_first_put is_at p 64 i a.prefix_plain refl in
    has_parts Instance p i st k n a refl short (begins_with p (64 ∷ i) a.prefix_there a.prefix_plain) (all_append is_name_byte p (64 ∷ i) a.prefix_bytes (and_from _ _ at_good f.1))
    (shape_is_of n st (stem_of_made st k) ∙ shape_at st true false (has_at p i) (ap is_empty rest ∙ not-true _ f.0))
    (before_first_put is_at p 64 i a.prefix_plain refl) rest

fits_at : (st : List ℕ) (t u : Bool) → list_any is_at st ≡ t → is_empty (after_first is_at st) ≡ u
    → list_all is_name_byte (after_first is_at st) ≡ true → fits (shape_of st) (after_first is_at st) ≡ true
fits_at st false u e f g = ap (λ x. fits x (after_first is_at st)) (shape_at st false u e f) ∙ ap is_empty (after_first_none is_at st e)
fits_at st true true e f g = ap (λ x. fits x (after_first is_at st)) (shape_at st true true e f) ∙ f
fits_at st true false e f g = ap (λ x. fits x (after_first is_at st)) (shape_at st true false e f) ∙ and_from _ _ (ap not f) g

pub parts_of_names_fit : PartsOfNamesFit
parts_of_names_fit n h =
    let m = (made_of_name n h).2 in
    record {
      prefix_there = prefix_begins (stem n) ∙ ap not m.begins;
      prefix_plain = before_first_fails is_at (stem n);
      prefix_bytes = all_take is_name_byte _ (stem n) m.bytes;
      instance_fits = ap (λ x. fits x (instance n)) (shape_is_of n (stem n) refl) ∙ fits_at (stem n) _ _ refl refl (all_drop is_name_byte _ (stem n) m.bytes);
    }

at_split : (st : List ℕ) → list_any is_at st ≡ true → st ≡ before_first is_at st ++ 64 ∷ after_first is_at st
at_split st h =
    let w = place_within is_at st h in
    let b = is_at_only _ (passes_at_first is_at st 0 w) in
    split_at_first is_at st 0 w ∙ ap (λ x. before_first is_at st ++ (x ∷ after_first is_at st)) b

by_shape : (st w : List ℕ) (t u : Bool) → list_any is_at st ≡ t → is_empty (after_first is_at st) ≡ u
    → name_with (if not t then Plain else if u then Template else Instance) (before_first is_at st) (after_first is_at st) w ≡ st ++ 46 ∷ w
by_shape st w false u e f = ap (λ x. x ++ 46 ∷ w) (before_first_all is_at st e)
by_shape st w true true e f =
    let split : st ≡ before_first is_at st ++ 64 ∷ [] = at_split st e ∙ ap (λ x. before_first is_at st ++ 64 ∷ x) (empty_is _ f) in
    sym (append_assoc (before_first is_at st) (64 ∷ []) (46 ∷ w)) ∙ sym (ap (λ x. x ++ 46 ∷ w) split)
by_shape st w true false e f = sym (ap (λ x. x ++ 46 ∷ w) (at_split st e))

pub names_are_their_parts : NamesAreTheirParts
names_are_their_parts n h =
    let m = made_of_name n h in
    let w = suffix_word n m.0 m.1 in
    let s = shape_is_of n (stem n) refl ∙ shape_at (stem n) _ _ refl refl in
    ap (λ x. name_with x (prefix n) (instance n) (suffix n)) s ∙ by_shape (stem n) (suffix n) _ _ refl refl ∙ ap (λ x. stem n ++ 46 ∷ x) w ∙ sym m.2.made
  where
    suffix_word : (n : Name) (k : Kind) → kind n ≡ Some k → suffix n ≡ word k
    suffix_word n k e = word_of_kind (suffix n) k (kind_parts n k e).1

-- the template of a name has the same prefix and kind
abbrev pub TemplatesKeepParts : Type 0
TemplatesKeepParts = (n t : Name) → IsName n → template_of n ≡ Some t → (k : Kind) × (kind n ≡ Some k) × HasParts t Template (prefix n) [] k

-- the instances of a template are the names that have this template and this instance
abbrev pub InstancesHaveTheTemplate : Type 0
InstancesHaveTheTemplate = (t i n : Name) → IsName t → (with_instance t i ≡ Some n) ↔ (IsName n × (template_of n ≡ Some t) × (instance n ≡ i))

template_some : (s : Shape) (n t : Name) → template_at s n ≡ Some t → (s ≡ Instance) × (t ≡ template_name (prefix n) (suffix n))
template_some Plain n t h = absurd (none-some _ h)
template_some Template n t h = absurd (none-some _ h)
template_some Instance n t h = (refl, sym (same_Some _ _ h))

-- the suffix of a name is that of its kind
pub suffix_is_word : (n : Name) (k : Kind) → kind n ≡ Some k → suffix n ≡ word k
suffix_is_word n k e = word_of_kind (suffix n) k (kind_parts n k e).1

-- an instance's name is its parts
pub instance_parts : (n : Name) → IsName n → shape n ≡ Instance → instance_name (prefix n) (instance n) (suffix n) ≡ n
instance_parts n h s = sym (ap (λ x. name_with x (prefix n) (instance n) (suffix n)) s) ∙ names_are_their_parts n h

pub template_parts : (n : Name) → IsName n → shape n ≡ Template → template_name (prefix n) (suffix n) ≡ n
template_parts n h s = sym (ap (λ x. name_with x (prefix n) (instance n) (suffix n)) s) ∙ names_are_their_parts n h

pub name_short : (n : Name) → IsName n → length n ≤ 255
name_short n h = (made_of_name n h).2.short

template_is_name : (n : Name) (k : Kind) → IsName n → kind n ≡ Some k → shape n ≡ Instance
    → HasParts (template_name (prefix n) (suffix n)) Template (prefix n) [] k
template_is_name n k h e s =
    let a = parts_of_names_fit n h in
    let w = suffix_is_word n k e in
    let short : length (name_with Template (prefix n) [] (word k)) ≤ 255 =
    omega (arith, name_short n h, ap length (sym (instance_parts n h s)), length-append (prefix n ++ 64 ∷ instance n) (46 ∷ suffix n), length-append (prefix n) (64 ∷ instance n), length-append (prefix n) (64 ∷ 46 ∷ word k), ap length w) in
    let fit : AreParts Template (prefix n) [] = record { prefix_there = a.prefix_there; prefix_plain = a.prefix_plain; prefix_bytes = a.prefix_bytes; instance_fits = refl } in
    subst (λ x. HasParts (template_name (prefix n) x) Template (prefix n) [] k) (sym w) (parts_make_names Template (prefix n) [] k fit short)

pub templates_keep_parts : TemplatesKeepParts
templates_keep_parts n t h e =
    let p = template_some (shape n) n t e in
    let m = made_of_name n h in
    (m.0, m.1, subst (λ x. HasParts x Template (prefix n) [] m.0) (sym p.1) (template_is_name n m.0 h m.1 p.0))

pub record IsTaken (t i n : Name) : Type 0 where
  shape_is : shape t ≡ Template
  fitting : is_instance i ≡ true
  short : leb (length n) 255 ≡ true
  put : n ≡ instance_name (prefix t) i (suffix t)

if_short_some : (m n : Name) → if_short m ≡ Some n → (leb (length m) 255 ≡ true) × (m ≡ n)
if_short_some m n h = cond_some (leb (length m) 255) m n h

taken_some : (s : Shape) (t i n : Name) → shape t ≡ s → instance_at s t i ≡ Some n → IsTaken t i n
taken_some Plain t i n e h = absurd (none-some _ h)
taken_some Instance t i n e h = absurd (none-some _ h)
taken_some Template t i n e h = step (is_instance i) refl h
  where
    step : (b : Bool) → is_instance i ≡ b → cond b (if_short (instance_name (prefix t) i (suffix t))) None ≡ Some n → IsTaken t i n
    step false f g = absurd (none-some _ g)
    step true f g =
        let r = if_short_some _ _ g in
        record { shape_is = e; fitting = f; short = sym (ap (λ x. leb (length x) 255) r.1) ∙ r.0; put = sym r.1 }

some_taken : (t i n : Name) → IsTaken t i n → with_instance t i ≡ Some n
some_taken t i n k =
    ap (λ s. instance_at s t i) k.shape_is
    ∙ cond-true (is_instance i) _ _ k.fitting
    ∙ cond-true _ _ _ (sym (ap (λ x. leb (length x) 255) k.put) ∙ k.short)
    ∙ ap (λ x. Some x) (sym k.put)

-- an instance of a template has the template's prefix and kind
pub instance_has_parts : (t i n : Name) → IsName t → with_instance t i ≡ Some n
    → (k : Kind) × (kind t ≡ Some k) × HasParts n Instance (prefix t) i k
instance_has_parts t i n h e =
    let k = taken_some (shape t) t i n refl e in
    let a = parts_of_names_fit t h in
    let m = made_of_name t h in
    let w = suffix_is_word t m.0 m.1 in
    let put : n ≡ instance_name (prefix t) i (word m.0) = k.put ∙ ap (instance_name (prefix t) i) w in
    let short : length (instance_name (prefix t) i (word m.0)) ≤ 255 = subst (λ x. length x ≤ 255) put (leb-true _ _ k.short) in
    let fit : AreParts Instance (prefix t) i = record { prefix_there = a.prefix_there; prefix_plain = a.prefix_plain; prefix_bytes = a.prefix_bytes; instance_fits = k.fitting } in
    (m.0, m.1, subst (λ x. HasParts x Instance (prefix t) i m.0) (sym put) (parts_make_names Instance (prefix t) i m.0 fit short))

pub instances_have_the_template : InstancesHaveTheTemplate
instances_have_the_template t i n h = (there, back)
  where
    there : with_instance t i ≡ Some n → IsName n × (template_of n ≡ Some t) × (instance n ≡ i)
    there e =
        let q = instance_has_parts t i n h e in
        let k = taken_some (shape t) t i n refl e in
        let w = suffix_is_word t q.0 q.1 in
        let of : template_of n ≡ Some (template_name (prefix n) (suffix n)) = ap (λ s. template_at s n) q.2.shape_is in
        let same : template_name (prefix n) (suffix n) ≡ t = ap (λ p. template_name p (suffix n)) q.2.prefix_is ∙ ap (template_name (prefix t)) (q.2.suffix_is ∙ sym w) ∙ template_parts t h k.shape_is in
        (q.2.name, of ∙ ap (λ x. Some x) same, q.2.instance_is)

    back : IsName n × (template_of n ≡ Some t) × (instance n ≡ i) → with_instance t i ≡ Some n
    back (g, e, j) =
        let p = template_some (shape n) n t e in
        let q = templates_keep_parts n t g e in
        let a = parts_of_names_fit n g in
        let f : is_instance i ≡ true = sym (ap is_instance j) ∙ sym (ap (λ s. fits s (instance n)) p.0) ∙ a.instance_fits in
        let put : n ≡ instance_name (prefix t) i (suffix t) =
        sym (instance_parts n g p.0) ∙ ap (λ x. instance_name x (instance n) (suffix n)) (sym q.2.prefix_is) ∙ ap (λ x. instance_name (prefix t) x (suffix n)) j
        ∙ ap (instance_name (prefix t) i) (suffix_is_word n q.0 q.1 ∙ sym q.2.suffix_is) in
        some_taken t i n (record { shape_is = q.2.shape_is; fitting = f; short = le-leb _ _ (name_short n g); put = put })

-- a prefix may be cut anywhere after its first byte
abbrev pub PrefixesMayBeCut : Type 0
PrefixesMayBeCut = (n p w : Name) → IsName n → prefix n ≡ p ++ w → is_empty p ≡ false → (k : Kind) × (kind n ≡ Some k) × HasParts (name_with (shape n) p (instance n) (suffix n)) (shape n) p (instance n) k

length-name_with : (s : Shape) (p q i k : List ℕ) → length p ≤ length q → length (name_with s p i k) ≤ length (name_with s q i k)
length-name_with Plain p q i k h = omega (arith, length-append p (46 ∷ k), length-append q (46 ∷ k))
length-name_with Template p q i k h = omega (arith, length-append p (64 ∷ 46 ∷ k), length-append q (64 ∷ 46 ∷ k))
length-name_with Instance p q i k h =
    omega (arith, length-append (p ++ 64 ∷ i) (46 ∷ k), length-append (q ++ 64 ∷ i) (46 ∷ k), length-append p (64 ∷ i), length-append q (64 ∷ i))

pub prefixes_may_be_cut : PrefixesMayBeCut
prefixes_may_be_cut n p w h e full =
    let m = made_of_name n h in
    let a = parts_of_names_fit n h in
    let word_is = suffix_is_word n m.0 m.1 in
    let plain = and_parts _ _ (sym (list_all-append (λ b. not (is_at b)) p w) ∙ sym (ap (list_all (λ b. not (is_at b))) e) ∙ a.prefix_plain) in
    let bytes = and_parts _ _ (sym (list_all-append is_name_byte p w) ∙ sym (ap (list_all is_name_byte) e) ∙ a.prefix_bytes) in
    let fit : AreParts (shape n) p (instance n) = record { prefix_there = full; prefix_plain = plain.0; prefix_bytes = bytes.0; instance_fits = a.instance_fits } in
    let less : length p ≤ length (prefix n) = omega (arith, ap length e, length-append p w) in
    let short : length (name_with (shape n) p (instance n) (suffix n)) ≤ 255 =
    omega (arith, length-name_with (shape n) p (prefix n) (instance n) (suffix n) less, ap length (names_are_their_parts n h), name_short n h) in (
      m.0,
      m.1,
      subst (λ x. HasParts (name_with (shape n) p (instance n) x) (shape n) p (instance n) m.0) (sym word_is)
          (parts_make_names (shape n) p (instance n) m.0 fit (subst (λ x. length (name_with (shape n) p (instance n) x) ≤ 255) word_is short)),
    )

-- the prefix of a name is a valid instance, and so is the instance of an instance
pub prefix_is_instance : (n : Name) → IsName n → is_instance (prefix n) ≡ true
prefix_is_instance n h = let a = parts_of_names_fit n h in and_from _ _ (ap not a.prefix_there) a.prefix_bytes

pub instance_is_instance : (n : Name) → IsName n → shape n ≡ Instance → is_instance (instance n) ≡ true
instance_is_instance n h s = sym (ap (λ x. fits x (instance n)) s) ∙ (parts_of_names_fit n h).instance_fits

word_bytes : (k : Kind) → list_all is_name_byte (46 ∷ word k) ≡ true
unfolding is_name_byte
word_bytes Service = refl
word_bytes Socket = refl
word_bytes Device = refl
word_bytes Mount = refl
word_bytes Automount = refl
word_bytes Swap = refl
word_bytes Target = refl
word_bytes Path = refl
word_bytes Timer = refl
word_bytes Slice = refl
word_bytes Scope = refl

-- all bytes of a name are allowed, in the suffix too
pub name_bytes : (n : Name) → IsName n → list_all is_name_byte n ≡ true
name_bytes n h =
    let m = made_of_name n h in
    ap (list_all is_name_byte) m.2.made ∙ all_append is_name_byte (stem n) (46 ∷ word m.0) m.2.bytes (word_bytes m.0)

-- names that compare as equal are equal
pub name_cmp-IsAntisymmetric : IsAntisymmetric name_cmp
name_cmp-IsAntisymmetric = slice_cmp-IsAntisymmetric nat_cmp-IsAntisymmetric

-- comparing as equal is being the same name
pub name_eq-Decides : (a b : Name) → Decides (eq_by_cmp name_cmp a b) (a ≡ b)
name_eq-Decides a b = (same, equal)
  where
    is_equal : (r : Ordering) → is_eq r ≡ true → r ≡ Equal
    is_equal Less h = cc
    is_equal Equal h = refl
    is_equal Greater h = cc

    same : eq_by_cmp name_cmp a b ≡ true → a ≡ b
    same h = name_cmp-IsAntisymmetric a b (is_equal (name_cmp a b) h)

    equal : a ≡ b → eq_by_cmp name_cmp a b ≡ true
    equal h = sym (ap (eq_by_cmp name_cmp a) h) ∙ ap is_eq (tied_itself nat_list_cmp_total a)

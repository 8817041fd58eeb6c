-- What contents say at other places: the same, but for the place of a fragment.
use Rattle.std.proofs.Common.{◌∷◌, ◌≡◌}
use Rattle.host_trees.specs.Prelude.{[], alias_of, alias_to, ap, Bool, Cause, Choice, cond, Content, content_says, decided, false, File, Gone, Instance, instance, is_bad_kind, is_name, is_null, is_self, kind, last_component, Link, link_says, List, Masked, Name, None, Option, option_and_then, option_map, PlaceParts, Plain, refl, Shape, shape, shapes_agree, Some, sym, Template, true, with_instance, ℕ, ◌∙◌}
use Rattle.fragment_choice.specs.declared.choices.Choice.TheVariants.{Alias, Bad, Fragment, NotFound}
use Rattle.fragment_choice.specs.declared.choices.Cause.TheVariants as cause

-- A map of choices that changes none but fragments.
pub record ChangesFragments (f : Choice → Choice) : Type 0 where
  pub not_found : f NotFound ≡ NotFound
  pub masked : f Masked ≡ Masked
  pub alias : (m : Name) → f (Alias m) ≡ Alias m
  pub bad : (cause : Cause) → f (Bad cause) ≡ Bad cause

module _ (f : Choice → Choice) (changes : ChangesFragments f) where
  alias_kept : (o : Option Name) → f (alias_to o) ≡ alias_to o
  alias_kept None = changes.bad cause.Target
  alias_kept (Some m) = changes.alias m

  made_kept : (x : Shape) (n : Name) (y : Shape) (t : Name) → f (alias_of x n y t) ≡ alias_of x n y t
  made_kept Plain n y t = changes.alias t
  made_kept Template n y t = changes.alias t
  made_kept Instance n Plain t = changes.alias t
  made_kept Instance n Template t = alias_kept (with_instance t (instance n))
  made_kept Instance n Instance t = changes.alias t

  decided_kept : (a b c d : Bool) (x : Choice) → f x ≡ x → option_map f (decided a b c d x) ≡ decided a b c d x
  decided_kept false b c d x e = ap Some (changes.bad cause.Target)
  decided_kept true true c d x e = refl
  decided_kept true false true d x e = ap Some (changes.bad cause.Kind)
  decided_kept true false false true x e = ap Some e
  decided_kept true false false false x e = ap Some (changes.bad cause.Shape)

  link_kept : (n o : Name) (t : List ℕ) → option_map f (link_says n o t) ≡ link_says n o t
  link_kept n o t =
      decided_kept (is_name t) (is_self o t) (is_bad_kind (kind o) (kind t)) (shapes_agree (shape o) (instance o) (shape t) (instance t))
      (alias_of (shape n) n (shape t) t) (made_kept (shape n) n (shape t) t)

  -- A content says the same at another place, but for the place of a fragment.
  content_moved : (n o : Name) (p q : PlaceParts) → f (Fragment p) ≡ Fragment q → (c : Content)
      → option_map f (content_says n o p c) ≡ content_says n o q c
  content_moved n o p q moves Gone = refl
  content_moved n o p q moves (File []) = ap Some changes.masked
  content_moved n o p q moves (File (b ∷ bs)) = ap Some moves
  content_moved n o p q moves (Link target) = by (is_null target)
    where
      by : (b : Bool) → option_map f (cond b (Some Masked) (link_says n o (last_component target)))
          ≡ cond b (Some Masked) (link_says n o (last_component target))
      by true = ap Some changes.masked
      by false = link_kept n o (last_component target)

  pub contents_moved : (n o : Name) (p q : PlaceParts) → f (Fragment p) ≡ Fragment q → (x : Option Content)
      → option_map f (option_and_then (content_says n o p) x) ≡ option_and_then (content_says n o q) x
  contents_moved n o p q moves None = refl
  contents_moved n o p q moves (Some c) = content_moved n o p q moves c

-- The same choice, with a fragment at this place.
abbrev put_at : PlaceParts → Choice → Choice
put_at q NotFound = NotFound
put_at q Masked = Masked
put_at q (Fragment p) = Fragment q
put_at q (Alias m) = Alias m
put_at q (Bad cause) = Bad cause

-- A content that says a fragment says its own place.
pub says_its_place : (n o : Name) (q p : PlaceParts) (c : Content) → content_says n o q c ≡ Some (Fragment p) → q ≡ p
says_its_place n o q p c e =
    let moved : Some (Fragment q) ≡ Some (Fragment p) =
    ap (option_map (put_at q)) (sym e)
    ∙ content_moved (put_at q) (record { not_found = refl; masked = refl; alias = λ m. refl; bad = λ cause. refl }) n o q q refl c ∙ e in
    cc (moved)

-- Laws of answers: where two views are alike but for places, and no unit of the universe is crossed, each question has the same
-- answer in both.
use Rattle.std.proofs.Common.{◌++◌, ◌≡◌, ◌⊎◌}
use Rattle.tree_answers.specs.Prelude.{Answer, ap, AreNames, asked, Bool, Choice, choice_at_fleet, DepKind, EntryMap, false, Folder, fragment_by, HasTemplate, HostViewMap, of_fleet, viewer_asked, host_view_of, inl, inr, is_loaded_by, is_loaded_without_file, IsAmong, IsAnswer, IsChoicesStatus, IsImplied, IsInUniverse, IsLoadedFrom, IsName, IsNamedByLink, IsNamedByWord, IsStatus, IsStatusBy, IsTrue, IsUnit, IsWholeAnswer, kind_of, List, LoadedUnit, Name, names_asked, Option, PlaceParts, Profile, Question, ReadsAlike, refl, Resolution, resolution, ShowsTree, Status, subst, sym, TreesHaveTheSameFragments, TreesNameAlike, TreesResolveAlike, TreesShowTheSameNames, true, true≢false, Viewer, without_host, ◌∙◌}
use Rattle.tree_answers.specs.{Alike.{AreSameAnswers}, ExistLaws.{unit_exists}, LoadLaws.{load_there, still_small}, ReturnedLaws.{returned_there}, UnitLaws.{same_without_file, unit_in_tree}, UniverseLaws.{HaveUnits, IsAlike, large_there, mains_over, universe_name}}
use Rattle.fleet_answers.specs.declared.questions.Answer.TheVariants as answer
use Rattle.fleet_answers.specs.declared.questions.Question.TheVariants as question
use Rattle.fragment_choice.specs.declared.choices.Choice.TheVariants as chosen
use Rattle.unit_loads.specs.declared.units.Status.TheVariants as status

-- a unit names another by a word, by a link, or as a manager implies it
abbrev HasWay : HostViewMap → Name → DepKind → Name → Type 0
HasWay s unit dep m = IsNamedByWord s unit dep m ⊎ ((folder : Folder) × (kind_of folder ≡ dep) × IsNamedByLink s unit folder m) ⊎ IsImplied s unit dep m

-- a unit that is loaded in the tree
record IsLoadedBy (profile : Profile) (n : Name) (c : Choice) : Type 0 where
  status : Status
  status_is : IsStatus profile n c status
  loaded : IsTrue (is_loaded_by status)

-- a unit whose choice in the tree loads it is loaded for the host
loaded_back : (profile : Profile) (n : Name) (c : Choice) (x : Status) → IsStatus profile n (choice_at_fleet c) x → IsTrue (is_loaded_by x)
    → IsLoadedBy profile n c
loaded_back profile n c x is loaded =
    by (is_loaded_without_file profile n c) refl (subst (λ (b : Bool). IsStatusBy b (choice_at_fleet c) x) (same_without_file profile n c) is)
  where
    not_loaded : {Z : Type 0} (y : Status) → x ≡ y → is_loaded_by y ≡ false → Z
    not_loaded y e f = absurd (true≢false (sym loaded ∙ ap is_loaded_by e ∙ f))

    of_choice : (d : Choice) → c ≡ d → is_loaded_without_file profile n c ≡ false
        → IsChoicesStatus (choice_at_fleet d) x → IsLoadedBy profile n c
    of_choice chosen.NotFound e f h = not_loaded status.NotFound h refl
    of_choice chosen.Masked e f h = not_loaded status.Masked h refl
    of_choice (chosen.Fragment q) e f h = record {
      status = status.Loaded q;
      status_is =
          subst (λ (b : Bool). IsStatusBy b c (status.Loaded q)) (sym f) (subst (λ (d : Choice). IsChoicesStatus d (status.Loaded q)) (sym e) refl);
      loaded = refl;
    }
    of_choice (chosen.Alias m) e f h = absurd h
    of_choice (chosen.Bad cause) e f h = not_loaded (status.Bad cause) h refl

    by : (without_file : Bool) → is_loaded_without_file profile n c ≡ without_file
        → IsStatusBy without_file (choice_at_fleet c) x → IsLoadedBy profile n c
    by true f h = record { status = status.BuiltIn; status_is = subst (λ (b : Bool). IsStatusBy b c status.BuiltIn) (sym f) refl; loaded = refl }
    by false f h = of_choice c refl f h

module _ (v w : HostViewMap) (over : IsAlike v w) (extra : List Name) (good : (n : Name) → IsAmong n extra → IsName n)
    (reads : (n : Name) (u : LoadedUnit) → IsInUniverse v extra n → IsUnit v n u → ReadsAlike v w u.names) where
  -- what names another is loaded, and has a list of its names: it has a unit
  have : HaveUnits v w over extra good reads
  have n m r (inl h) = by h.named.1
    where
      by : HasWay v n h.dep m → (u : LoadedUnit) × IsUnit v n u
      by (inl x) = unit_exists v n x.names x.fragment h.own x.names_are x.loaded
      by (inr (inl (folder, kind, x))) = unit_exists v n x.names x.fragment h.own x.names_are x.loaded
      by (inr (inr x)) = unit_exists v n x.names x.fragment h.own x.names_are x.loaded
  have n m r (inr h) = by h.named.1
    where
      name : IsName n
      name = universe_name v extra good n r

      from : (names : List Name) (fragment : Option PlaceParts) → AreNames w n names → IsLoadedFrom w n fragment
          → (u : LoadedUnit) × IsUnit v n u
      from names fragment are loaded =
          let by_profile = subst (λ (by : Profile). IsStatus by n (resolution w n).choice loaded.status) (sym over.profile) loaded.status_is in
          let chosen_so = subst (λ (x : Resolution). IsStatus v.profile n x.choice loaded.status) (over.resolved n name) by_profile in
          let back = loaded_back v.profile n (resolution v n).choice loaded.status chosen_so loaded.loaded in
          unit_exists v n names (fragment_by back.status) (sym (mains_over v w over n name) ∙ h.own) ((over.names n names).1 are)
          (record { status = back.status; status_is = back.status_is; loaded = back.loaded; fragment_is = refl })

      by : HasWay w n h.dep m → (u : LoadedUnit) × IsUnit v n u
      by (inl x) = from x.names x.fragment x.names_are x.loaded
      by (inr (inl (folder, kind, x))) = from x.names x.fragment x.names_are x.loaded
      by (inr (inr x)) = from x.names x.fragment x.names_are x.loaded

  pub whole_there : (asking : Question) (a : Answer) → IsWholeAnswer v extra asking a
      → (b : Answer) × IsWholeAnswer w extra (without_host asking) b × AreSameAnswers v w a b
  whole_there asking a (inl large) = (
    answer.TooManyUnits,
    inl (large_there v w over extra good reads have large.0, refl),
    subst (λ (z : Answer). AreSameAnswers v w z answer.TooManyUnits) (sym large.1) refl,
  )
  whole_there asking a (inr returned) =
      let l = returned.snapshot.is_load in
      let has = load_there v w over extra good reads returned.load l in
      let b = returned_there v w extra returned.load has.other l has.is_load has.same over.profile asking a returned.returned_is in (
        b.0,
        inr (record {
          load = has.other;
          snapshot = record {
            within = still_small v w over extra good reads returned.load l returned.snapshot.within;
            is_load = has.is_load;
          };
          returned_is = b.1;
        }),
        b.2,
      )

-- ---- questions

names_stay : (asking : Question) → names_asked (without_host asking) ≡ names_asked asking
names_stay (question.Unit viewer name) = refl
names_stay (question.Pulled viewer name) = refl
names_stay (question.Plan request) = refl
names_stay (question.Units viewer) = refl

no_host : (asking : Question) → viewer_asked (without_host asking) ≡ of_fleet (viewer_asked asking).profile
no_host (question.Unit viewer name) = refl
no_host (question.Pulled viewer name) = refl
no_host (question.Plan request) = refl
no_host (question.Units viewer) = refl

-- If the views of a host and of a store without a host are alike, and none is crossed, each question has the same answer.
pub answer_there : (s t : EntryMap) (viewer : Viewer)
    → IsAlike (host_view_of s viewer) (host_view_of t (of_fleet viewer.profile)) → (extra : List Name)
    (asking : Question) → viewer_asked asking ≡ viewer → ((n : Name) → IsAmong n (asked extra asking) → IsName n)
    → ((n : Name) (u : LoadedUnit) → IsInUniverse (host_view_of s viewer) (asked extra asking) n → IsUnit (host_view_of s viewer) n u
    → ReadsAlike (host_view_of s viewer) (host_view_of t (of_fleet viewer.profile)) u.names)
    → (a : Answer) → IsAnswer s extra asking a
    → (b : Answer) × IsAnswer t extra (without_host asking) b
    × AreSameAnswers (host_view_of s viewer) (host_view_of t (of_fleet viewer.profile)) a b
answer_there s t viewer over extra asking is good reads a h = by h
  where
    same : asked extra (without_host asking) ≡ asked extra asking
    same = ap (λ names. extra ++ names) (names_stay asking)

    bare_is : viewer_asked (without_host asking) ≡ of_fleet viewer.profile
    bare_is = no_host asking ∙ ap (λ (asks : Viewer). of_fleet asks.profile) is

    whole : IsWholeAnswer (host_view_of s viewer) (asked extra asking) asking a
        → (b : Answer)
        × IsWholeAnswer (host_view_of t (viewer_asked (without_host asking))) (asked extra (without_host asking)) (without_host asking) b
        × AreSameAnswers (host_view_of s viewer) (host_view_of t (of_fleet viewer.profile)) a b
    whole x =
        let b = whole_there (host_view_of s viewer) (host_view_of t (of_fleet viewer.profile)) over (asked extra asking) good reads asking a x in
        let P : Viewer → Type 0 = λ looks. IsWholeAnswer (host_view_of t looks) (asked extra asking) (without_host asking) b.0 in
        let Q : List Name → Type 0 =
        λ names. IsWholeAnswer (host_view_of t (viewer_asked (without_host asking))) names (without_host asking) b.0 in
        (b.0, subst Q (sym same) (subst P (sym bare_is) b.1), b.2)

    by : IsAnswer s extra asking a
        → (b : Answer) × IsAnswer t extra (without_host asking) b
        × AreSameAnswers (host_view_of s viewer) (host_view_of t (of_fleet viewer.profile)) a b
    by (inl template) = (
      answer.Template,
      inl (subst HasTemplate (sym same) template.0, refl),
      subst (λ (z : Answer). AreSameAnswers (host_view_of s viewer) (host_view_of t (of_fleet viewer.profile)) z answer.Template) (sym template.1) refl,
    )
    by (inr (none, x)) =
        let b = whole (subst (λ (looks : Viewer). IsWholeAnswer (host_view_of s looks) (asked extra asking) asking a) is x) in
        (b.0, inr (λ template. none (subst HasTemplate same template), b.1), b.2)

-- A host and a store that shows just its tree are alike.
pub trees_are_alike : TreesResolveAlike → TreesNameAlike → TreesShowTheSameNames → TreesHaveTheSameFragments
    → (s t : EntryMap) (viewer : Viewer) → ShowsTree t s viewer.host
    → IsAlike (host_view_of s viewer) (host_view_of t (of_fleet viewer.profile))
trees_are_alike resolves names visible fragments s t viewer shows = record {
  profile = refl;
  resolved = resolves s t viewer shows;
  names = names s t viewer shows;
  shown = visible s t viewer shows;
  units = λ n good u is reads. unit_in_tree resolves names fragments s t viewer shows n good u is reads;
}

-- Laws of words and kinds.
use Rattle.std.proofs.Common.{if◌then◌else◌, ◌≡◌}
use Rattle.setting_rules.specs.Prelude.{ap, false, Files, is_percent, list_any, Manager, Name, None, plain_texts_stay, Profile, refl, Some}
use Rattle.setting_rules.specs.{declared.kinds.DepKind.{DepKind, TheVariants.{After, Before, BindsTo, BoundBy, ConflictedBy, Conflicts, ConsistsOf, InSlice, OnFailure, OnFailureOf, PartOf, PropagatesReloadTo, ReloadPropagatedFrom, RequiredBy, Requires, Requisite, RequisiteOf, SliceOf, TriggeredBy, Triggers, UpheldBy, Upholds, WantedBy, Wants}}, Dependencies.{named_by, named_by_text}, Kinds.{inverse, is_settable, settable_kind, word}, Rules.{Text}}

-- A word without a percent sign is read unchanged.
abbrev pub PlainWordsStay : Type 0
PlainWordsStay = (unit : Name) (w : Text) → list_any is_percent w ≡ false → named_by unit w ≡ named_by_text unit (Some w)

pub plain_words_stay : PlainWordsStay
unfolding named_by
plain_words_stay unit w h = ap (named_by_text unit) (plain_texts_stay w unit h)

-- The inverse of a kind's inverse is the kind.
abbrev pub InversesAreUndone : Type 0
InversesAreUndone = (kind : DepKind) → inverse (inverse kind) ≡ kind

pub inverses_are_undone : InversesAreUndone
inverses_are_undone Before = refl
inverses_are_undone After = refl
inverses_are_undone Wants = refl
inverses_are_undone WantedBy = refl
inverses_are_undone Requires = refl
inverses_are_undone RequiredBy = refl
inverses_are_undone Requisite = refl
inverses_are_undone RequisiteOf = refl
inverses_are_undone BindsTo = refl
inverses_are_undone BoundBy = refl
inverses_are_undone PartOf = refl
inverses_are_undone ConsistsOf = refl
inverses_are_undone Conflicts = refl
inverses_are_undone ConflictedBy = refl
inverses_are_undone OnFailure = refl
inverses_are_undone OnFailureOf = refl
inverses_are_undone PropagatesReloadTo = refl
inverses_are_undone ReloadPropagatedFrom = refl
inverses_are_undone Upholds = refl
inverses_are_undone UpheldBy = refl
inverses_are_undone Triggers = refl
inverses_are_undone TriggeredBy = refl
inverses_are_undone InSlice = refl
inverses_are_undone SliceOf = refl

-- The name of a kind is the key that sets it, if a key sets the kind by the profile; else it sets no dependencies.
abbrev pub WordsSetKinds : Type 0
WordsSetKinds = (profile : Profile) (kind : DepKind) → settable_kind profile (word kind) ≡ (if is_settable profile kind then Some kind else None)

words_by_files : (kind : DepKind) → settable_kind Files (word kind) ≡ (if is_settable Files kind then Some kind else None)
unfolding settable_kind
words_by_files Before = refl
words_by_files After = refl
words_by_files Wants = refl
words_by_files WantedBy = refl
words_by_files Requires = refl
words_by_files RequiredBy = refl
words_by_files Requisite = refl
words_by_files RequisiteOf = refl
words_by_files BindsTo = refl
words_by_files BoundBy = refl
words_by_files PartOf = refl
words_by_files ConsistsOf = refl
words_by_files Conflicts = refl
words_by_files ConflictedBy = refl
words_by_files OnFailure = refl
words_by_files OnFailureOf = refl
words_by_files PropagatesReloadTo = refl
words_by_files ReloadPropagatedFrom = refl
words_by_files Upholds = refl
words_by_files UpheldBy = refl
words_by_files Triggers = refl
words_by_files TriggeredBy = refl
words_by_files InSlice = refl
words_by_files SliceOf = refl

words_by_manager : (kind : DepKind) → settable_kind Manager (word kind) ≡ (if is_settable Manager kind then Some kind else None)
unfolding settable_kind
words_by_manager Before = refl
words_by_manager After = refl
words_by_manager Wants = refl
words_by_manager WantedBy = refl
words_by_manager Requires = refl
words_by_manager RequiredBy = refl
words_by_manager Requisite = refl
words_by_manager RequisiteOf = refl
words_by_manager BindsTo = refl
words_by_manager BoundBy = refl
words_by_manager PartOf = refl
words_by_manager ConsistsOf = refl
words_by_manager Conflicts = refl
words_by_manager ConflictedBy = refl
words_by_manager OnFailure = refl
words_by_manager OnFailureOf = refl
words_by_manager PropagatesReloadTo = refl
words_by_manager ReloadPropagatedFrom = refl
words_by_manager Upholds = refl
words_by_manager UpheldBy = refl
words_by_manager Triggers = refl
words_by_manager TriggeredBy = refl
words_by_manager InSlice = refl
words_by_manager SliceOf = refl

pub words_set_kinds : WordsSetKinds
words_set_kinds Files kind = words_by_files kind
words_set_kinds Manager kind = words_by_manager kind

-- The words that name profiles.
-- Source: this project's own.
use Rattle.std.proofs.Common.{if◌then◌else◌, ◌≡◌}
use Rattle.script_commands.specs.Prelude.{ap, Bool, bytes_eq, bytes_eq-Decides, codes, cond, false, Files, List, Manager, None, Option, Profile, refl, Some, true, ℕ, ◌∙◌}

-- the word that names a profile
abbrev pub profile_word : Profile → List ℕ
profile_word Files = codes "files"
profile_word Manager = codes "manager"

-- the profile that a word names, if it names one
abbrev pub profile_of : List ℕ → Option Profile
profile_of word =
    if bytes_eq word (codes "files") then Some Files
    else (if bytes_eq word (codes "manager") then Some Manager
    else None)

-- ---- each is read back from its word, and from no other

pub profile_of-profile_word : (profile : Profile) → profile_of (profile_word profile) ≡ Some profile
profile_of-profile_word Files = refl
profile_of-profile_word Manager = refl

same_profile : (p q : Profile) → Some p ≡ Some q → p ≡ q
same_profile p q e = cc

none_named : (profile : Profile) → None ≡ Some profile → ⊥
none_named profile e = cc

pub profile_word-profile_of : (word : List ℕ) (profile : Profile) → profile_of word ≡ Some profile → word ≡ profile_word profile
profile_word-profile_of word profile e = by (bytes_eq word (codes "files")) (bytes_eq word (codes "manager")) refl refl e
  where
    by : (a b : Bool) → bytes_eq word (codes "files") ≡ a → bytes_eq word (codes "manager") ≡ b
        → cond a (Some Files) (cond b (Some Manager) None) ≡ Some profile → word ≡ profile_word profile
    by true b is and e = (bytes_eq-Decides word (codes "files")).0 is ∙ ap profile_word (same_profile Files profile e)
    by false true is and e = (bytes_eq-Decides word (codes "manager")).0 and ∙ ap profile_word (same_profile Manager profile e)
    by false false is and e = absurd (none_named profile e)

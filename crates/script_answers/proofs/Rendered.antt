-- From the answer to a question to the answer to the words that ask it.
use Rattle.std.proofs.Common.{◌≡◌}
use Rattle.script_answers.proofs.Prelude.{[], Answer, EntryMap, Err, Fault, fault_of_host, fault_of_name, fault_of_plan, Form, ForHost, Global, host_asked, HostFault, HostName, inl, inr, IsAnswer, IsHostFault, IsNameFault, IsOutcomeOf, IsSaid, List, MatchResult, NameFault, Ok, Option, Outcome, PlanRefusal, Question, refl, RefusesHost, RefusesName, RendersQuestion, RendersWords, Result, subst, sym, Vec, Viewer, viewer_asked, ℕ}
use Rattle.load_places.specs.declared.hosts.HostFault.TheVariants as host
use Rattle.unit_name.specs.declared.names.NameFault.TheVariants as name
use Rattle.script_commands.specs.declared.commands.Fault.TheVariants as fault
use Rattle.fleet_answers.specs.declared.questions.Answer.TheVariants as answer

-- the result of answering, as text
abbrev pub Rendered : Type 0
Rendered = Result (Vec ℕ Global) Fault

abbrev pub IsRendered : Rendered → (Outcome → Type 0) → Type 0
IsRendered r P = IsSaid (λ (text : Vec ℕ Global). text.items) r P

-- an outcome that meets a condition meets a weaker one
pub weaker : (r : Rendered) (P Q : Outcome → Type 0) → ((outcome : Outcome) → P outcome → Q outcome) → IsRendered r P → IsRendered r Q
weaker (Ok text) P Q f p = f _ p
weaker (Err (fault.Refused refusal)) P Q f p = f _ p
weaker (Err fault.Memory) P Q f p = tt

-- the refusal of a plan is that of its fault
pub refusal_said : (form : Form) (s : EntryMap) (viewer : Viewer) (cause : PlanRefusal) (f : Fault) → f ≡ fault_of_plan cause → IsRendered (Err f) (IsOutcomeOf form s viewer (answer.Refused cause))
refusal_said form s viewer cause (fault.Refused r) e = record { refusal = r; rendered = sym e; outcome_is = refl }
refusal_said form s viewer cause fault.Memory e = tt

-- the fault of a name says why it is refused
fault_rendered : (P : Outcome → Type 0) (f : NameFault) → ((outcome : Outcome) → RefusesName f outcome → P outcome) → IsRendered (Err (fault_of_name f)) P
fault_rendered P name.Length say = say _ refl
fault_rendered P name.Kind say = say _ refl
fault_rendered P name.EmptyPrefix say = say _ refl
fault_rendered P (name.BadByte place) say = say _ refl
fault_rendered P name.Memory say = tt

module _ (form : Form) (read : Result Question NameFault) (s : EntryMap) where
  abbrev Renders : Outcome → Result Question NameFault → Type 0
  Renders outcome r = RendersWords form r s outcome

  -- words that aren't names are refused
  pub words_rendered : (f : Fault) → IsNameFault read f → IsRendered (Err f) (RendersWords form read s)
  words_rendered f (inl e) = subst (λ (x : Fault). IsRendered (Err x) (RendersWords form read s)) (sym e) tt
  words_rendered f (inr why) =
      subst (λ (x : Fault). IsRendered (Err x) (RendersWords form read s)) (sym why.2)
      (fault_rendered (RendersWords form read s) why.0 (λ outcome rendered. subst (Renders outcome) (sym why.1) rendered))

  -- and the answer to the question is the answer to the words
  pub question_rendered : (question : Question) → read ≡ Ok question → (r : Rendered) → IsRendered r (RendersQuestion form question s) → IsRendered r (RendersWords form read s)
  question_rendered question are r rendered = weaker r (RendersQuestion form question s) (RendersWords form read s) (λ outcome whole. subst (Renders outcome) (sym are) whole) rendered

-- the text of an answer answers its question
pub answer_rendered : (form : Form) (s : EntryMap) (question : Question) (rendered : Answer) → IsAnswer s [] question rendered
    → (r : Rendered) → IsRendered r (IsOutcomeOf form s (viewer_asked question) rendered) → IsRendered r (RendersQuestion form question s)
answer_rendered form s question rendered is r said =
    weaker r (IsOutcomeOf form s (viewer_asked question) rendered) (RendersQuestion form question s) (λ outcome o. (rendered, is, o)) said

-- ---- for the host that is named

module _ (asked : Option (List ℕ)) (Renders : Option (List ℕ) → EntryMap → Outcome → Type 0) (s : EntryMap) where
  -- bytes that name no host are refused
  pub host_rendered : (f : Fault) → IsHostFault (host_asked asked) f → IsRendered (Err f) (ForHost asked Renders s)
  host_rendered f (inl memory) = subst (λ (x : Fault). IsRendered (Err x) (ForHost asked Renders s)) (sym memory.2) tt
  host_rendered f (inr why) = subst (λ (x : Fault). IsRendered (Err x) (ForHost asked Renders s)) (sym why.2) (by why.0 why.1)
    where
      by : (g : HostFault) → host_asked asked ≡ Err g → IsRendered (Err (fault_of_host g)) (ForHost asked Renders s)
      by host.HostName e = subst (λ (r : Result (Option (List ℕ)) HostFault). MatchResult r (λ h. Renders h s (Err HostName)) (λ g. RefusesHost g (Err HostName))) (sym e) refl
      by host.Memory e = tt

  -- and what is answered for a host is answered for the one that is named
  pub for_host : (h : Option (List ℕ)) → host_asked asked ≡ Ok h → (r : Rendered) → IsRendered r (Renders h s) → IsRendered r (ForHost asked Renders s)
  for_host h are r rendered =
      weaker r (Renders h s) (ForHost asked Renders s)
      (λ outcome whole. subst (λ (x : Result (Option (List ℕ)) HostFault). MatchResult x (λ k. Renders k s outcome) (λ g. RefusesHost g outcome)) (sym are) whole) rendered

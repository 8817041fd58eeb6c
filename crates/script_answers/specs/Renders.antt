-- The answer to a question about a node's store: how it is written, or why the words make no question.
-- Source: systemctl(1), "show", "list-dependencies", "start"; the texts are this project's own.
use Rattle.std.proofs.Common.{◌≡◌}
use Rattle.script_answers.specs.Prelude.{[], Answer, EntryMap, Err, IsAnswer, LinkedUnit, List, MatchResult, name_of, NameFault, Ok, Option, Outcome, Profile, Question, Result, Viewer, viewer_asked, ℕ}
use Rattle.script_answers.specs.{Files.{RefusesName}, Hosts.{by_profile, ForHost}, Plans.{plan_text, RefusesPlan}, PulledLines.{pulled_text}, Requests.{request_of}, TreeTexts.{IsTreeText}, UnitLines.{unit_text, units_text}}
use Rattle.script_answers.specs.declared.asking.Form.{Form}
use Rattle.script_answers.specs.declared.asking.Form.TheVariants as form
use Rattle.script_commands.specs.declared.commands.LineRefusal.TheVariants as refusal
use Rattle.fleet_answers.specs.declared.questions.Answer.TheVariants as answer
use Rattle.fleet_answers.specs.declared.questions.Question.TheVariants as question
use Rattle.script_commands.specs.declared.commands.Inquiry.{Inquiry}
use Rattle.script_commands.specs.declared.commands.Inquiry.TheVariants as inquiry

-- all units are written one after another, or as the tree of the host for which they are loaded
abbrev pub AreWritten : Form → EntryMap → Viewer → List LinkedUnit → List ℕ → Type 0
AreWritten form.Units s viewer all text = text ≡ units_text all
AreWritten form.Tree s viewer all text = IsTreeText s viewer all text

-- the outcome is the text of this answer, in a form if it is of all units, or its refusal
abbrev pub IsOutcomeOf : Form → EntryMap → Viewer → Answer → Outcome → Type 0
IsOutcomeOf form s viewer answer.Template outcome = outcome ≡ Err refusal.Template
IsOutcomeOf form s viewer answer.TooManyUnits outcome = outcome ≡ Err refusal.TooManyUnits
IsOutcomeOf form s viewer (answer.Unit linked) outcome = outcome ≡ Ok (unit_text linked)
IsOutcomeOf form s viewer (answer.Pulled pairs) outcome = outcome ≡ Ok (pulled_text pairs)
IsOutcomeOf form s viewer (answer.Planned plan) outcome = outcome ≡ Ok (plan_text plan)
IsOutcomeOf form s viewer (answer.Refused cause) outcome = RefusesPlan cause outcome
IsOutcomeOf form s viewer (answer.Units all) outcome = (text : List ℕ) × AreWritten form s viewer all text × (outcome ≡ Ok text)

-- the answer to the question, in a form
abbrev pub RendersQuestion : Form → Question → EntryMap → Outcome → Type 0
RendersQuestion form question s outcome =
    (rendered : Answer) × IsAnswer s [] question rendered × IsOutcomeOf form s (viewer_asked question) rendered outcome

-- the answer to the question that words make, or the first thing wrong with the first of them that is no unit name
abbrev pub RendersWords : Form → Result Question NameFault → EntryMap → Outcome → Type 0
RendersWords form read s outcome = MatchResult read (λ question. RendersQuestion form question s outcome) (λ fault. RefusesName fault outcome)

-- ---- the questions that words make

-- the question that is made of what was read, if it was
abbrev pub asks : {X : Type 0} → (X → Question) → Result X NameFault → Result Question NameFault
asks make (Ok read) = Ok (make read)
asks make (Err fault) = Err fault

-- which unit a word resolves to
abbrev pub unit_asked : List ℕ → Viewer → Result Question NameFault
unit_asked word viewer = asks (question.Unit viewer) (name_of word)

-- what the unit of a word pulls
abbrev pub pulled_asked : List ℕ → Viewer → Result Question NameFault
pulled_asked word viewer = asks (question.Pulled viewer) (name_of word)

-- the plan to start the unit of a word while those of other words run
abbrev pub plan_asked : List ℕ → List (List ℕ) → Viewer → Result Question NameFault
plan_asked unit running viewer = asks question.Plan (request_of viewer unit running)

-- all units
abbrev pub units_asked : Viewer → Result Question NameFault
units_asked viewer = Ok (question.Units viewer)

-- what words ask for a viewer
abbrev pub question_asked : Inquiry → Viewer → Result Question NameFault
question_asked (inquiry.Unit unit) = unit_asked unit
question_asked (inquiry.List unit) = pulled_asked unit
question_asked (inquiry.Plan unit running) = plan_asked unit running
question_asked inquiry.Units = units_asked
question_asked inquiry.Tree = units_asked

-- what words ask by a profile, for a host or without one
abbrev pub question_by : Profile → Inquiry → Option (List ℕ) → Result Question NameFault
question_by profile inquiry host = question_asked inquiry (by_profile profile host)

-- the form in which the answer is written if it is of all units
abbrev pub form_of : Inquiry → Form
form_of (inquiry.Unit unit) = form.Units
form_of (inquiry.List unit) = form.Units
form_of (inquiry.Plan unit running) = form.Units
form_of inquiry.Units = form.Units
form_of inquiry.Tree = form.Tree

-- ---- answers for the host that a word names

-- the answer to the question that is made for it
abbrev pub RendersFor : Form → (Option (List ℕ) → Result Question NameFault) → Option (List ℕ) → EntryMap → Outcome → Type 0
RendersFor form asks_for asked = ForHost asked (λ host. RendersWords form (asks_for host))

-- the answer to what words ask by a profile
abbrev pub RendersInquiry : Profile → Option (List ℕ) → Inquiry → EntryMap → Outcome → Type 0
RendersInquiry profile asked inquiry = RendersFor (form_of inquiry) (question_by profile inquiry) asked

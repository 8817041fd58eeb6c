-- A crowd has one answer.
use Rattle.std.proofs.Common.{◌≡◌}
use Rattle.script_answers.specs.{Crowds.{RendersCrowd}, Prelude.{ap, EntryMap, false, inl, inr, is_spent, Outcome, sym, ℕ, ◌∙◌}}

-- a crowd has one answer, or one refusal
abbrev pub CrowdsAreRenderedOnce : Type 0
CrowdsAreRenderedOnce = (seats edits : ℕ) (s : EntryMap) (a b : Outcome) → RendersCrowd seats edits s a → RendersCrowd seats edits s b → a ≡ b

pub crowds_are_rendered_once : CrowdsAreRenderedOnce
crowds_are_rendered_once seats edits s a b (inl p) (inl q) = p.1 ∙ sym q.1
crowds_are_rendered_once seats edits s a b (inl p) (inr q) = absurd (q.0 p.0)
crowds_are_rendered_once seats edits s a b (inr p) (inl q) = absurd (p.0 q.0)
crowds_are_rendered_once seats edits s a b (inr p) (inr q) = p.1 ∙ sym q.1

-- and it is never that counters are spent
pub crowds_spend_nothing : (seats edits : ℕ) (s : EntryMap) (outcome : Outcome) → RendersCrowd seats edits s outcome
    → is_spent outcome ≡ false
crowds_spend_nothing seats edits s outcome (inl p) = ap is_spent p.1
crowds_spend_nothing seats edits s outcome (inr p) = ap is_spent p.1

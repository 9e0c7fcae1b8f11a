-- A run over words: what holds between two steps is kept, and after the last of them the words stand for the end marking. Assumes nothing.
use Rattle.std.specs.Prelude.{◌≡◌, refl, Bool, true, false, not, ◌&&◌, ◌||◌, eqb, List, [], ◌∷◌, ◌++◌, ℕ, ◌<◌, ◌+◌, length, drop, get_or, set}
use Rattle.std.proofs.Common.{◌∙◌, ap, subst, ⊎_elim, eqb-true}
use Rattle.std.proofs.Math.Seq.{drop-length}
use Rattle.std.proofs.lemmas.List.{append-nil}
use Rattle.rules.specs.declared.Table.{Table}
use Rattle.rules.specs.declared.Marking.{Marking}
use Rattle.rules.specs.declared.Record.{Record}
use Rattle.rules.specs.declared.Step.{Step}
use Rattle.rules.specs.CheckAnswer.{Accepts}
use Rattle.rules.specs.Numbers.{◌if◌, check_number}
use Rattle.rules.specs.Judge.{judged}
use Rattle.rules.specs.Check.{verdict}
use Rattle.rules.specs.Trace.{step_number, stepped, end_of, answers_of}
use Rattle.rules.specs.Shapes.Turned.{turned}
use Rattle.rules.proofs.Laws.Tests.{clash, both, either}
use Rattle.rules.proofs.Laws.Numbers.{both_done}
use Rattle.rules.proofs.Laws.Check.{verdict_done}
use Rattle.rules.proofs.Laws.Trace.{stepped_judged, After, after_none, after_more, after_all}
use Rattle.rules.proofs.Demand3.Accepts.{check_parts, check_accepts}
use Rattle.rules.proofs.Demand3.Statements.{still_accepts as accepts-on}
use Rattle.acts.specs.declared.marking_words.MarkingWords.{MarkingWords}
use Rattle.acts.specs.Words.{StandFor}
use Rattle.duties.specs.Step.{Turned}
use Rattle.engine.specs.Running.{no_step}

-- Between two steps: the marking is judged, and where the check is said to accept it does.
pub record Fit (t : Table) (now : Marking) (accepted : Bool) : Type 0 where
  pub judged_done : judged t now ≡ 0
  pub accepts : accepted ≡ true → verdict t now ≡ Accepts

-- It is kept. Judged values stay judged; a guarded tick that is done shows that the check accepts, and from there it accepts whatever the steps
-- are.
module _ (t : Table) (now : Marking) (accepted : Bool) (s : Step) (f : Fit t now accepted) where
  three_told : (event : ℕ) → step_number t now (record { kind = 3; event = event }) ≡ 0 → check_number (verdict t now) ≡ 0
  unfolding step_number
  three_told event h = (both_done (15 if not (eqb event 0)) (check_number (verdict t now)) h).1

  ticked_accepts : eqb s.kind 3 && eqb (step_number t now s) 0 ≡ true → verdict t now ≡ Accepts
  ticked_accepts h =
      let p = both (eqb s.kind 3) (eqb (step_number t now s) 0) h in
      verdict_done t now (three_told s.event (rw (eqb-true s.kind 3 p.0) at (eqb-true (step_number t now s) 0 p.1)))

  on_accepts : verdict t now ≡ Accepts → verdict t (stepped t now s) ≡ Accepts
  unfolding end_of
  on_accepts a = (check_parts t _ (accepts-on t now (check_accepts t now f.judged_done a) (s ∷ []))).1

  pub fit_next : Fit t (stepped t now s) (accepted || eqb s.kind 3 && eqb (step_number t now s) 0)
  fit_next = record {
    judged_done = stepped_judged t now s f.judged_done;
    accepts = λ h. on_accepts (⊎_elim f.accepts ticked_accepts (either accepted _ h));
  }

-- A loop over the steps, after i of them: the marking and the buffer, and what holds between two steps.
module _ (t : Table) (m : Marking) (steps : List Step) (buffer : List ℕ) where
  pub record Going (i : ℕ) (now : Marking) (accepted : Bool) (held : List ℕ) : Type 0 where
    pub after : After t m steps buffer i now held
    pub fit : judged t m ≡ 0 → Fit t now accepted

  pub going_first : Going 0 m false buffer
  going_first = record {
    after = after_none t m steps buffer;
    fit = λ done. record { judged_done = done; accepts = λ b. absurd (clash b refl) };
  }

  pub going_more : (i : ℕ) (now : Marking) (accepted : Bool) (held : List ℕ) → Going i now accepted held → i < length steps → i < length buffer
      → (s : Step) → s ≡ get_or steps i no_step
      → Going (i + 1) (turned t now s.kind s.event).marking (accepted || eqb s.kind 3 && eqb (turned t now s.kind s.event).number 0)
      (set held i (turned t now s.kind s.event).number)
  unfolding turned
  going_more i now accepted held g more room s is = record {
    after = after_more t m steps buffer i now held g.after more room (turned t now s.kind s.event) (rw is refl);
    fit = λ done. fit_next t now accepted s (g.fit done);
  }

-- After i steps: the words stand for the marking, and the buffer has an answer for each step before what it held.
pub record Playing (t : Table) (tail : List Record) (m : Marking) (steps : List Step) (buffer : List ℕ) (i : ℕ) (words : MarkingWords)
    (accepted : Bool) (held : List ℕ) : Type 0 where
  pub now : Marking
  pub stands : StandFor t.events tail words now
  pub going : Going t m steps buffer i now accepted held

module _ (t : Table) (tail : List Record) (m : Marking) (steps : List Step) (buffer : List ℕ) where
  pub playing_first : (words : MarkingWords) → StandFor t.events tail words m → Playing t tail m steps buffer 0 words false buffer
  playing_first words stands = record { now = m; stands = stands; going = going_first t m steps buffer }

  module _ (i : ℕ) (words : MarkingWords) (accepted : Bool) (held : List ℕ) (p : Playing t tail m steps buffer i words accepted held) where
    -- where the check is said to accept it does
    pub playing_accepts : judged t m ≡ 0 → accepted ≡ true → verdict t p.now ≡ Accepts
    playing_accepts done = (p.going.fit done).accepts

    pub playing_more : i < length steps → i < length buffer → (s : Step) → s ≡ get_or steps i no_step
        → (told : ℕ) (next-accepted : Bool) (next : MarkingWords) → Turned t tail p.now accepted s told next-accepted next
        → Playing t tail m steps buffer (i + 1) next next-accepted (set held i told)
    playing_more more room s is told next-accepted next step = record {
      now = (turned t p.now s.kind s.event).marking;
      stands = step.stands;
      going = rw (step.accepts, step.number) (going_more t m steps buffer i p.now accepted held p.going more room s is);
    }

    -- after the last step: the marking, what the words stand for, and the buffer, of which later bytes stay
    pub playing_last : i ≡ length steps
        → (p.now ≡ end_of t m steps) × (StandFor t.events tail words (end_of t m steps))
        × (held ≡ answers_of t m steps ++ drop (length steps) buffer)
    playing_last e =
        let done = after_all t m steps buffer i p.now held p.going.after e in
        (done.0, subst (λ (k : Marking). StandFor t.events tail words k) done.0 p.stands, done.1)

    -- .. which has no later ones where it has a byte for each step and no more
    pub playing_whole : i ≡ length steps → length steps ≡ length buffer
        → (StandFor t.events tail words (end_of t m steps)) × (held ≡ answers_of t m steps)
    playing_whole e all =
        let done = playing_last e in
        let none : drop (length steps) buffer ≡ [] = rw all (drop-length buffer) in
        (done.1, done.2 ∙ ap {B = List ℕ} (λ l. answers_of t m steps ++ l) none ∙ append-nil (answers_of t m steps))

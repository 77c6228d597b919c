-- A step without a statement ends, and one whose text is no script is refused.
use Rattle.std.proofs.Common.{◌≡◌, ℕ, ◌+◌, ◌<◌, ◌≤◌, ◌∷◌, refl, sym, ap, true, false, Option, Some, None, arith, ◌∙◌, inl, slice_get, slice_set}
use Rattle.std.specs.Prelude.{IsSome}
use Rattle.al_statements.specs.declared.cause.Cause.{Cause}
use Rattle.al_statements.specs.declared.cause.Cause.TheVariants as causes
use Rattle.al_history.specs.declared.entry.Entry.TheVariants.{End}
use Rattle.al_statements.specs.declared.fault.SqlFault.{SqlFault}
use Rattle.al_statements.specs.declared.fault.SqlFault.TheVariants as faults
use Rattle.al_history.specs.declared.statement.Terms.{Terms}
use Rattle.al_history.specs.Past.{Past, past_of}
use Rattle.al_history.specs.Hand.{hand, fault_of, statement_of, implicit_of}
use Rattle.al_history.specs.Waits.{can_go_on}
use Rattle.al_history.specs.Cause.{text_cause}
use Rattle.al_history.specs.Legal.{MayCome}
use Rattle.al_history.specs.Whole.{driver, IsLeast}
use Rattle.al_history.proofs.Comes.{cause_free, comes_end}
use Rattle.al_history.proofs.Doings.{doing, own_moves}
use Rattle.al_history.proofs.Implicit.{implicit_first}
use Rattle.al_history.proofs.Pasts.{if_same}
use Rattle.al_history.proofs.Turns.{Went, extends_by}
use Rattle.al_engine.specs.declared.sessions.Session.{Session}
use Rattle.al_engine.specs.Sessions.{IsMirror, light_of, stopped}
use Rattle.al_engine.specs.Listed.{KeepsControls, IsAfter}
use Rattle.al_engine.specs.Kept.{listed_in, Parts, IsKept, CanBeRefused, used_by}
use Rattle.al_sessions.specs.declared.step.How.TheVariants.{Done}
use Rattle.al_engine.proofs.AfterLemmas.{ends_after, control_none}
use Rattle.al_engine.proofs.Amid.{amid_begins, amid_stops, still_end}
use Rattle.al_engine.proofs.DoneLemmas.{step_three}
use Rattle.al_engine.proofs.SessionLemmas.{light_at}
use Rattle.al_engine.proofs.TurnLemmas.{IsGoing, going, statement_some}

-- a text that is no script is refused as a whole
pub text_refused : (terms : Terms) (p : Parts) (s : ℕ) (state : Session) (fault : SqlFault) (cause : Cause) → IsKept terms p → slice_get p.sessions s ≡ Some state → can_go_on (past_of p.journal) s ≡ true → fault_of terms state.hand ≡ Some fault → text_cause (Some fault) ≡ Some cause → CanBeRefused terms (past_of p.journal) s state cause
text_refused terms p s state fault cause kept there can faulty is =
    let old : Past = past_of p.journal in
    let g : IsGoing terms old s state = going terms p s state kept there can in
    record {
      hand_is = g.outline.hand_is;
      xact_is = g.outline.xact_is;
      block_is = g.outline.block_is;
      closed_is = g.outline.closed_is;
      in_step = rw g.busy refl;
      first_true = cause_free terms old s (doing old s) kept.sound.legal refl kept.clear.settled kept.clear.owed_is ∙ rw (g.outline.hand_is, faulty, is) refl;
      settled = kept.clear.settled;
      follows = rw kept.clear.owed_is tt;
      timely = rw kept.clear.owed_is can;
    }

-- which takes no more places than an End
pub text_uses : (fault : SqlFault) (cause : Cause) → text_cause (Some fault) ≡ Some cause → used_by cause ≡ 0
text_uses (faults.Syntax at) cause is = let same : causes.Syntax at ≡ cause = cc in rw (← same) refl
text_uses (faults.NotInProfile at) cause is = let same : causes.NotInProfile at ≡ cause = cc in rw (← same) refl

none_of : (o : Option ℕ) → ((x : ℕ) → o ≡ Some x → ⊥) → o ≡ None
none_of None never = refl
none_of (Some x) never = absurd (never x refl)

module _ (terms : Terms) (p : Parts) (s : ℕ) (state : Session) (kept : IsKept terms p) (there : slice_get p.sessions s ≡ Some state) (can : can_go_on (past_of p.journal) s ≡ true) (is_script : fault_of terms state.hand ≡ None) (none_left : statement_of terms state.hand state.done ≡ None) where
  abbrev old : Past
  old = past_of p.journal

  g : IsGoing terms old s state
  g = going terms p s state kept there can

  none_there : statement_of terms (Some g.block) state.done ≡ None
  none_there = ap (λ (h : Option ℕ). statement_of terms h state.done) (sym g.busy) ∙ none_left

  none_more : state.left ≡ 0
  none_more = omega (arith, beyond) where
    beyond : 0 < state.left → ⊥
    beyond some =
        let within = statement_some terms g.block state.done (omega (arith, g.under.counted.all)) in
        (let wrong : false ≡ true = rw none_there at within in cc)

  -- no statement is left, so there was none
  empty : state.done ≡ 0
  empty = g.under.counted.some none_more

  none_implicit : implicit_of old s ≡ None
  none_implicit = none_of (implicit_of old s) (λ x is.
      let first : IsSome (statement_of terms (hand old s) 0) = implicit_first terms old s x kept.sound.legal is in
      let none : statement_of terms state.hand 0 ≡ None = ap (λ (n : ℕ). statement_of terms state.hand n) (sym empty) ∙ none_left in
      let there_is : IsSome (statement_of terms state.hand 0) = rw g.outline.hand_is at first in
      (let wrong : false ≡ true = rw none at there_is in cc))

  end_may : MayCome terms old (End s)
  end_may = comes_end terms old s (doing old s) kept.sound.legal refl kept.clear.settled g.block (g.outline.hand_is ∙ g.busy) (inl (record { is_script = rw g.outline.hand_is is_script; none_left = rw (g.outline.hand_is, g.under.dones_is) none_left })) none_implicit (rw kept.clear.owed_is tt) (rw kept.clear.owed_is can)

  pub finish_room : 0 < p.journal.room
  finish_room = omega (arith, kept.sound.reserved, light_at p.sessions s state there, least) where
    least : 3 ≤ light_of state
    least = rw g.busy (omega (arith, step_three state.xact state.left))

  pub finish_went : (new : Past) → new ≡ End s ∷ old → Went terms s old new false (driver old) (IsLeast old s)
  finish_went new noted = rw noted (record {
    legal = (end_may, kept.sound.legal);
    extends = extends_by s old (End s) (inl refl);
    more = omega arith;
    hands = λ r other. rw other refl;
    own = inl (rw (if_same s) refl);
    refused_ends = λ wrong. absurd (let no : false ≡ true = wrong in cc);
    closed_same = λ r. refl;
    driven = refl;
    failed = λ spec. refl;
    told = λ so. so;
    left_is = λ spec steps. refl;
    one_row = omega arith;
    in_turn = λ least d. (rw kept.clear.owed_is least, d);
  })

  pub finish_after : IsAfter Done (listed_in p) s (stopped state state.xact state.block)
  finish_after = ends_after terms (listed_in p) s g.block state state.wants state.xact state.block None kept.sound.controlled there g.busy (control_none terms g.block state none_there) refl (omega (arith, none_more))

  own_finishes : IsMirror terms (doing (End s ∷ old) s) (stopped state state.xact state.block)
  own_finishes = rw (own_moves old s (End s) refl) (record {
    outline = record { hand_is = refl; xact_is = g.outline.xact_is; block_is = g.outline.block_is; closed_is = g.outline.closed_is; wants_is = refl };
    underway = λ block busy. absurd cc;
  })

  pub finish_kept : (q : Parts) → past_of q.journal ≡ End s ∷ old → q.journal.room + 1 ≡ p.journal.room → q.sessions ≡ slice_set p.sessions s (stopped state state.xact state.block) → q.tables ≡ p.tables → q.locks ≡ p.locks → q.committed ≡ p.committed → q.weight ≡ p.weight → KeepsControls (listed_in p) (listed_in q) → IsKept terms q
  finish_kept q noted room set tables locks committed weight_is controls_kept = amid_stops terms p q s 0 state (stopped state state.xact state.block) (End s) (amid_begins terms p s kept) there (still_end s) refl end_may g.free kept.clear.settled refl own_finishes (λ x is. is) fits noted room set tables locks committed weight_is controls_kept where
    fits : light_of (stopped state state.xact state.block) + 0 + 1 ≤ light_of state
    fits = rw g.busy (omega (arith, step_three state.xact state.left))

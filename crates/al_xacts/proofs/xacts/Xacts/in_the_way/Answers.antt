use Rattle.std.proofs.Common.{ℕ, ◌≡◌, subst, ◌↔◌, IfSome, None, true, false}
use Rattle.al_xacts.specs.Kept.{Kept, marks_on}
use Rattle.al_xacts.specs.Fates.{is_open_at}
use Rattle.al_xacts.specs.Marks.{makes_wait, IsLeast, marks_in}
use Rattle.al_xacts.proofs.Least.{found-none, found-least, found-has}
use Rattle.al_xacts.proofs.xacts.Xacts.in_the_way.Goals as goal

pub returns-clause-none : goal.returns-clause-none
returns-clause-none c =
    subst (λ (k : Kept). (c.xact_of.result ≡ None) ↔ ((by : ℕ) → makes_wait (marks_on k c.args.row) c.args.x c.args.mode by ≡ false)) c.self.view_is
    (found-none c.args.x c.args.mode (marks_in c.self.inside.marks.entries c.args.row) _ (cc))

pub returns-clause-least : goal.returns-clause-least
returns-clause-least c =
    subst (λ (k : Kept). IfSome c.xact_of.result (IsLeast (makes_wait (marks_on k c.args.row) c.args.x c.args.mode))) c.self.view_is
    (found-least c.args.x c.args.mode (marks_in c.self.inside.marks.entries c.args.row) _ (cc))

pub returns-clause-undecided : goal.returns-clause-undecided
returns-clause-undecided c =
    subst (λ (k : Kept). IfSome c.xact_of.result (λ by. is_open_at k.transactions by ≡ true)) c.self.view_is
    (found-has (is_open_at c.self.inside.transactions.items) c.args.x c.args.mode (marks_in c.self.inside.marks.entries c.args.row) _ (cc) (c.self.invariant.undecided c.args.row))

use Rattle.std.proofs.Common.{◌≡◌, inl, inr, refl}
use Rattle.al_tokens.specs.declared.bytes.Begins.TheVariants as begins
use Rattle.al_tokens.specs.Begun.{begun_at}
use Rattle.al_tokens.proofs.Starts.{word_rises, comment_rises, sign_within, from_blank, from_comment, from_word, from_digit, from_name, from_text, from_sign}
use Rattle.al_tokens.proofs.Unique.{stray_there}
use Rattle.al_tokens.proofs.read.piece.Goals as goal

pub number-kind-requires-clause-digit : goal.number-kind-requires-clause-digit
number-kind-requires-clause-digit c =
    let e : begun_at c.args.text.now c.args.place ≡ begins.Number = cc in
    from_digit _ _ e

pub quoted_name-requires-clause-quote : goal.quoted_name-requires-clause-quote
quoted_name-requires-clause-quote c =
    let e : begun_at c.args.text.now c.args.place ≡ begins.QuotedName = cc in
    from_name _ _ e

pub quoted_text-requires-clause-quote : goal.quoted_text-requires-clause-quote
quoted_text-requires-clause-quote c =
    let e : begun_at c.args.text.now c.args.place ≡ begins.Text = cc in
    from_text _ _ e

pub returns-in-Blank-clause-found : goal.returns-in-Blank-clause-found
returns-in-Blank-clause-found c =
    let e : begun_at c.args.text.now c.args.place ≡ begins.Blank = cc in
    inl (from_blank _ _ e, refl)

pub returns-in-Comment-clause-found : goal.returns-in-Comment-clause-found
returns-in-Comment-clause-found c =
    let e : begun_at c.args.text.now c.args.place ≡ begins.Comment = cc in
    let both = from_comment _ _ e in
    inr (both.0, both.1, c.seek.ensures)

pub returns-in-Comment-clause-rises : goal.returns-in-Comment-clause-rises
returns-in-Comment-clause-rises c =
    let e : begun_at c.args.text.now c.args.place ≡ begins.Comment = cc in
    (comment_rises _ _ _ c.requires.inside (from_comment _ _ e).0 c.seek.ensures, c.seek.ensures.within)

pub returns-in-Word-clause-found : goal.returns-in-Word-clause-found
returns-in-Word-clause-found c =
    let e : begun_at c.args.text.now c.args.place ≡ begins.Word = cc in
    (from_word _ _ e, c.run_end.ensures)

pub returns-in-Word-clause-rises : goal.returns-in-Word-clause-rises
returns-in-Word-clause-rises c =
    let e : begun_at c.args.text.now c.args.place ≡ begins.Word = cc in
    (word_rises _ _ _ c.requires.inside (from_word _ _ e) c.run_end.ensures, c.run_end.ensures.within)

pub returns-in-Sign-clause-found : goal.returns-in-Sign-clause-found
returns-in-Sign-clause-found c =
    let e : begun_at c.args.text.now c.args.place ≡ begins.Sign c.in-Sign.sign = cc in
    (from_sign _ _ _ e, rw c.width.ensures)

pub returns-in-Sign-clause-rises : goal.returns-in-Sign-clause-rises
returns-in-Sign-clause-rises c =
    let e : begun_at c.args.text.now c.args.place ≡ begins.Sign c.in-Sign.sign = cc in
    rw c.width.ensures (sign_within _ _ _ c.requires.inside e)

pub returns-in-Nothing-clause-stops : goal.returns-in-Nothing-clause-stops
returns-in-Nothing-clause-stops c =
    let e : begun_at c.args.text.now c.args.place ≡ begins.Nothing = cc in
    stray_there _ _ c.requires.inside e

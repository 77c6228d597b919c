-- Every file that keeps the rules is noted without a fault.
use Rattle.std.proofs.Common.{◌≡◌, ℕ, suc, ◌+◌, ◌≤◌, Bool, true, false, List, [], ◌∷◌, ◌++◌, length, length-append, append_assoc, Option, Some, None, Result, Ok, Err, refl, sym, ap, ◌∙◌, arith, subst}
use Rattle.std.specs.Prelude.{if◌then◌else◌, ◌==◌, nat_lt, map, is_some}
use Rattle.std.proofs.lemmas.List.{append-nil}
use Rattle.std.proofs.lemmas.Bool.{ltb-true, eqb-true}
use Rattle.al_grammar.specs.Kinds.{among, within}
use Rattle.al_grammar.specs.Rules.{IsOptional, left_out, there, IsMany, none, one_more}
use Rattle.al_grammar.proofs.FirstTokens.{clash, in_within}
use Rattle.al_grammar.proofs.Every.{Every}
use Rattle.al_spec.specs.declared.kinds.Word.{Word}
use Rattle.al_spec.specs.declared.kinds.Word.TheVariants as words
use Rattle.al_spec.specs.declared.kinds.Kind.{Kind}
use Rattle.al_spec.specs.declared.kinds.Kind.TheVariants as kinds
use Rattle.al_spec.specs.declared.kinds.Lexeme.{Lexeme}
use Rattle.al_spec.specs.declared.kinds.Lexeme.TheVariants as lexemes
use Rattle.al_spec.specs.declared.kinds.Token.{Token}
use Rattle.al_spec.specs.declared.spec.Part.{Part}
use Rattle.al_spec.specs.declared.spec.Part.TheVariants as parts
use Rattle.al_spec.specs.declared.spec.Block.{Block}
use Rattle.al_spec.specs.declared.spec.SpecFault.{SpecFault}
use Rattle.al_spec.specs.declared.spec.SpecFault.TheVariants as faults
use Rattle.al_spec.specs.declared.spec.SpecLimit.TheVariants as limits
use Rattle.al_spec.specs.declared.notes.Noted.{Noted}
use Rattle.al_spec.specs.Grammar.{kind, number, name_in, text_in, word, name, block, block_after, step, step_of, steps, session_end, session_parts, session_of, session, sessions, permutation, bodies, late, file, file_of, StepText, SessionText, File}
use Rattle.al_spec.specs.Notes.{note_lexeme, note_name, note_block, note_session, note_step, note_named, note_all, and_note, nothing_noted, all_permutations, steps_in, number_of, number_or, base_work, work_at}
use Rattle.al_spec.specs.Meaning.{number_in, one_block, setup_block, step_block, session_blocks, blocks_from}
use Rattle.al_spec.specs.Keeps.{Each, Keeps, DifferAfter, IsStepName, named_work, all_work, limits as most}
use Rattle.al_spec.proofs.Known.{NotOpen, IsKnown}
use Rattle.al_spec.proofs.NoteParts.{notes_append}
use Rattle.al_spec.proofs.Values.{known_parts, no_some, TextFits, Adds, InPermutation, noting, new_block, numbers, with_step, adds_both, same_count, after_session, after_step, after_name, setup_maybe, main_teardown, main_setups, step_adds, session_by, one_session, session_adds, sessions_add, named_more, numbers_size, on_permutation, name_in_permutation, permutation_adds, permuted, alone}

-- notes that go through
record Goes (n : Noted) (ts : List Token) : Type 0 where
  pub end : Noted
  pub gives : note_all n ts ≡ Ok end

go_nothing : (n : Noted) → Goes n []
go_nothing n = record { end = n; gives = refl }

go_parts : (n : Noted) (ts a b : List Token) → ts ≡ a ++ b → (g : Goes n a) → Goes g.end b → Goes n ts
go_parts n ts a b split g h = record {
  end = h.end;
  gives = ap (λ (l : List Token). note_all n l) split ∙ notes_append n a b ∙ ap (λ (r : Result Noted SpecFault). and_note r (λ m. note_all m b)) g.gives ∙ h.gives;
}

go_alone : (n m : Noted) (ts : List Token) (t : Token) → ts ≡ t ∷ [] → note_lexeme t.lexeme t.start n ≡ Ok m → Goes n ts
go_alone n m ts t one e = record { end = m; gives = ap (λ (l : List Token). note_all n l) one ∙ ap (λ (r : Result Noted SpecFault). and_note r (λ k. note_all k [])) e }

-- ---- lists in two parts

each_split : {X : Type 0} (Is : X → Type 0) (xs ys : List X) → Each Is (xs ++ ys) → Each Is xs × Each Is ys
each_split Is [] ys h = (tt, h)
each_split Is (x ∷ xs) ys h = let more = each_split Is xs ys h.1 in ((h.0, more.0), more.1)

differ_split : (before a b : List Block) → DifferAfter before (a ++ b) → DifferAfter before a × DifferAfter (before ++ a) b
differ_split before [] b h = (tt, subst (λ (l : List Block). DifferAfter l b) (sym (append-nil before)) h)
differ_split before (x ∷ a) b h =
    let more = differ_split (before ++ x ∷ []) a b h.1 in
    ((h.0, more.0), subst (λ (l : List Block). DifferAfter l b) (append_assoc before (x ∷ []) a) more.1)

-- ---- a word

abbrev quiet : List ℕ
quiet = 0 ∷ 1 ∷ 2 ∷ 3 ∷ []

word_goes : (l : Lexeme) (at : ℕ) (n : Noted) → among (number (kind l)) quiet ≡ true → (m : Noted) × (note_lexeme l at n ≡ Ok m)
word_goes (lexemes.Word words.Setup) at n e = (record n { word = Some words.Setup; at = at }, refl)
word_goes (lexemes.Word words.Teardown) at n e = (record n { word = Some words.Teardown; at = at }, refl)
word_goes (lexemes.Word words.Session) at n e = (record n { word = Some words.Session; at = at }, refl)
word_goes (lexemes.Word words.Step) at n e = (record n { word = Some words.Step; at = at }, refl)
word_goes (lexemes.Word words.Permutation) at n e = absurd (clash e refl)
word_goes (lexemes.Name x) at n e = absurd (clash e refl)
word_goes (lexemes.Block x) at n e = absurd (clash e refl)
word_goes lexemes.OpenName at n e = absurd (clash e refl)
word_goes lexemes.OpenBlock at n e = absurd (clash e refl)
word_goes lexemes.Unclosed at n e = absurd (clash e refl)
word_goes lexemes.Paren at n e = absurd (clash e refl)
word_goes lexemes.Stray at n e = absurd (clash e refl)

go_word : (k : Kind) (ts : List Token) (u : Unit {0}) (n : Noted) → within (number k ∷ []) quiet ≡ true → (word k).Is ts u → Goes n ts
go_word k ts u n q is =
    let g = word_goes is.token.lexeme is.token.start n (in_within _ (number k ∷ []) quiet q is.kind_is) in
    go_alone n g.0 ts is.token is.alone g.1

-- ---- a name and a block

name_same : (l : Lexeme) (at : ℕ) (n : Noted) (v : List ℕ) → name_in l ≡ Some v → NotOpen l → note_lexeme l at n ≡ note_name n.word v at n
name_same (lexemes.Word words.Setup) at n v e k = absurd (no_some v e)
name_same (lexemes.Word words.Teardown) at n v e k = absurd (no_some v e)
name_same (lexemes.Word words.Session) at n v e k = absurd (no_some v e)
name_same (lexemes.Word words.Step) at n v e k = absurd (no_some v e)
name_same (lexemes.Word words.Permutation) at n v e k = absurd (no_some v e)
name_same (lexemes.Name x) at n v e k = let same : x ≡ v = cc in ap (λ (y : List ℕ). note_name n.word y at n) same
name_same (lexemes.Block x) at n v e k = absurd (no_some v e)
name_same lexemes.OpenName at n v e k = absurd k
name_same lexemes.OpenBlock at n v e k = absurd (no_some v e)
name_same lexemes.Unclosed at n v e k = absurd (no_some v e)
name_same lexemes.Paren at n v e k = absurd (no_some v e)
name_same lexemes.Stray at n v e k = absurd (no_some v e)

go_name : (ts : List Token) (v : List ℕ) (n : Noted) → name.Is ts v → Every IsKnown ts → ((at : ℕ) → (m : Noted) × (note_name n.word v at n ≡ Ok m)) → Goes n ts
go_name ts v n is k goes =
    let known = (known_parts ts (is.token ∷ []) [] is.alone k).0 in
    let g = goes is.token.start in
    go_alone n g.0 ts is.token is.alone (name_same is.token.lexeme is.token.start n v is.value_is known.0 ∙ g.1)

block_same : (l : Lexeme) (at : ℕ) (n : Noted) (v : List ℕ) → text_in l ≡ Some v → NotOpen l → note_lexeme l at n ≡ note_block v at n
block_same (lexemes.Word words.Setup) at n v e k = absurd (no_some v e)
block_same (lexemes.Word words.Teardown) at n v e k = absurd (no_some v e)
block_same (lexemes.Word words.Session) at n v e k = absurd (no_some v e)
block_same (lexemes.Word words.Step) at n v e k = absurd (no_some v e)
block_same (lexemes.Word words.Permutation) at n v e k = absurd (no_some v e)
block_same (lexemes.Name x) at n v e k = absurd (no_some v e)
block_same (lexemes.Block x) at n v e k = let same : x ≡ v = cc in ap (λ (y : List ℕ). note_block y at n) same
block_same lexemes.OpenName at n v e k = absurd (no_some v e)
block_same lexemes.OpenBlock at n v e k = absurd k
block_same lexemes.Unclosed at n v e k = absurd (no_some v e)
block_same lexemes.Paren at n v e k = absurd (no_some v e)
block_same lexemes.Stray at n v e k = absurd (no_some v e)

block_goes : (c : Bool) (at : ℕ) (n : Noted) (v : List ℕ) → nat_lt 65536 (length v) ≡ c → length v ≤ 65536
    → (m : Noted) × ((if c then Err (faults.Limit at limits.Block) else noting (record n { blocks = n.blocks ++ new_block n v ∷ [] })) ≡ Ok m)
block_goes true at n v h le = absurd (let big = ltb-true 65536 (length v) h in omega (arith, big, le))
block_goes false at n v h le = (record n { blocks = n.blocks ++ new_block n v ∷ [] }, refl)

go_block : (ts : List Token) (v : List ℕ) (n : Noted) → block.Is ts v → Every IsKnown ts → length v ≤ 65536 → Goes n ts
go_block ts v n is k le =
    let known = (known_parts ts (is.token ∷ []) [] is.alone k).0 in
    let g = block_goes (nat_lt 65536 (length v)) is.token.start n v refl le in
    go_alone n g.0 ts is.token is.alone (block_same is.token.lexeme is.token.start n v is.value_is known.0 ∙ g.1)

-- ---- setup and teardown

go_after : (k : Kind) → within (number k ∷ []) quiet ≡ true → (ts : List Token) (v : List ℕ) (n : Noted) → (block_after k).Is ts v → Every IsKnown ts → length v ≤ 65536 → Goes n ts
unfolding block_after
go_after k q ts v n is known le =
    let kn = known_parts ts is.front is.back is.split known in
    let w = go_word k is.front is.first n q is.first_is in
    let b = go_block is.back is.second w.end is.second_is kn.1 (subst (λ (x : List ℕ). length x ≤ 65536) is.value_is le) in
    go_parts n ts is.front is.back is.split w b

go_maybe : (k : Kind) → within (number k ∷ []) quiet ≡ true → (p : Part) (j : ℕ) (ts : List Token) (o : Option (List ℕ)) (n : Noted) → IsOptional (block_after k).Is ts o → Every IsKnown ts → Each TextFits (one_block p j o) → Goes n ts
go_maybe k q p j _ _ n left_out known e = go_nothing n
go_maybe k q p j _ _ n (there ts v is) known e = go_after k q ts v n is known e.0

go_setups : (ts : List Token) (vs : List (List ℕ)) (n : Noted) → IsMany (block_after kinds.Setup).Is ts vs → Every IsKnown ts → Each TextFits (map setup_block vs) → Goes n ts
go_setups _ _ n none known e = go_nothing n
go_setups _ _ n (one_more ts front back v vs split is more) known e =
    let kn = known_parts ts front back split known in
    let first = go_after kinds.Setup refl front v n is kn.0 e.0 in
    go_parts n ts front back split first (go_setups back vs first.end more kn.1 e.1)

-- ---- steps

step_goes : (o : Option ℕ) (v : List ℕ) (at : ℕ) (n : Noted) → o ≡ None → (m : Noted) × (note_step o v at n ≡ Ok m)
step_goes (Some i) v at n e = absurd cc
step_goes None v at n e = (record n { name = v }, refl)

go_step : (ts : List Token) (s : StepText) (n : Noted) → step.Is ts s → Every IsKnown ts → length s.text ≤ 65536 → number_of s.name n.blocks ≡ None → Goes n ts
unfolding step
go_step ts s n is known le new =
    let kn = known_parts ts is.front is.back is.split known in
    let p = go_word kinds.Step is.front is.first n refl is.first_is in
    let w = after_step is.front is.first n p.end is.first_is p.gives in
    let b = is.second_is in
    let inner = known_parts is.back b.front b.back b.split kn.1 in
    let value : s ≡ step_of b.first b.second = is.value_is ∙ b.value_is in
    let blocks : p.end.blocks ≡ n.blocks = w.adds.blocks ∙ append-nil n.blocks in
    let none_yet : number_of b.first p.end.blocks ≡ None =
    ap (λ (bs : List Block). number_of b.first bs) blocks ∙ sym (ap (λ (x : StepText). number_of x.name n.blocks) value) ∙ new in
    let named = go_name b.front b.first p.end b.first_is inner.0 (λ at.
    let g = step_goes (number_of b.first p.end.blocks) b.first at p.end none_yet in (g.0, ap (λ (o : Option Word). note_name o b.first at p.end) w.word ∙ g.1)) in
    let last = go_block b.back b.second named.end b.second_is inner.1 (subst (λ (x : StepText). length x.text ≤ 65536) value le) in
    go_parts n ts is.front is.back is.split p (go_parts p.end is.back b.front b.back b.split named last)

go_steps : (ts : List Token) (ss : List StepText) (n : Noted) (k : ℕ) → length n.sessions ≡ k → IsMany step.Is ts ss → Every IsKnown ts → Each TextFits (map (step_block k) ss) → DifferAfter n.blocks (map (step_block k) ss) → Goes n ts
go_steps _ _ n k len none known e d = go_nothing n
go_steps _ _ n k len (one_more ts front back v vs split is more) known e d =
    let kn = known_parts ts front back split known in
    let first = go_step front v n is kn.0 e.0 (d.0 refl) in
    let a : Adds n first.end [] (step_block k v ∷ []) = subst (λ (j : ℕ). Adds n first.end [] (step_block j v ∷ [])) len (step_adds front v n first.end is kn.0 first.gives) in
    go_parts n ts front back split first
    (go_steps back vs first.end k (same_count n first.end (step_block k v ∷ []) a ∙ len) more kn.1 e.1 (subst (λ (l : List Block). DifferAfter l (map (step_block k) vs)) (sym a.blocks) d.1))

go_steps_all : (ts : List Token) (ss : List StepText) (n : Noted) (k : ℕ) → length n.sessions ≡ k → steps.Is ts ss → Every IsKnown ts → Each TextFits (map (step_block k) ss) → DifferAfter n.blocks (map (step_block k) ss) → Goes n ts
unfolding steps
go_steps_all ts ss n k len is known e d =
    go_steps ts (is.first ∷ is.second) n k len (one_more ts is.front is.back is.first is.second is.split is.first_is is.second_is) known
    (subst (λ (x : List StepText). Each TextFits (map (step_block k) x)) is.value_is e)
    (subst (λ (x : List StepText). DifferAfter n.blocks (map (step_block k) x)) is.value_is d)

-- ---- sessions

abbrev end_blocks : ℕ → List StepText × Option (List ℕ) → List Block
end_blocks k v = map (step_block k) v.0 ++ one_block parts.SessionTeardown k v.1

go_session_end : (ts : List Token) (v : List StepText × Option (List ℕ)) (n : Noted) (k : ℕ) → length n.sessions ≡ suc k → session_end.Is ts v → Every IsKnown ts → Each TextFits (end_blocks (suc k) v) → DifferAfter n.blocks (end_blocks (suc k) v) → Goes n ts
unfolding session_end
go_session_end ts v n k len is known e d =
    let kn = known_parts ts is.front is.back is.split known in
    let texts = each_split TextFits (map (step_block (suc k)) is.first) (one_block parts.SessionTeardown (suc k) is.second) (subst (λ (x : List StepText × Option (List ℕ)). Each TextFits (end_blocks (suc k) x)) is.value_is e) in
    let new = differ_split n.blocks (map (step_block (suc k)) is.first) (one_block parts.SessionTeardown (suc k) is.second) (subst (λ (x : List StepText × Option (List ℕ)). DifferAfter n.blocks (end_blocks (suc k) x)) is.value_is d) in
    let a = go_steps_all is.front is.first n (suc k) len is.first_is kn.0 texts.0 new.0 in
    go_parts n ts is.front is.back is.split a (go_maybe kinds.Teardown refl parts.SessionTeardown (suc k) is.back is.second a.end is.second_is kn.1 texts.1)

go_session_parts : (ts : List Token) (v : Option (List ℕ) × (List StepText × Option (List ℕ))) (n : Noted) (k : ℕ) (x : List ℕ) → length n.sessions ≡ suc k → session_parts.Is ts v → Every IsKnown ts
    → Each TextFits (session_blocks (suc k) (session_of x v)) → DifferAfter n.blocks (session_blocks (suc k) (session_of x v)) → Goes n ts
unfolding session_parts
go_session_parts ts v n k x len is known e d =
    let kn = known_parts ts is.front is.back is.split known in
    let texts = each_split TextFits (one_block parts.SessionSetup (suc k) is.first) (end_blocks (suc k) is.second) (subst (λ (y : Option (List ℕ) × (List StepText × Option (List ℕ))). Each TextFits (session_blocks (suc k) (session_of x y))) is.value_is e) in
    let new = differ_split n.blocks (one_block parts.SessionSetup (suc k) is.first) (end_blocks (suc k) is.second) (subst (λ (y : Option (List ℕ) × (List StepText × Option (List ℕ))). DifferAfter n.blocks (session_blocks (suc k) (session_of x y))) is.value_is d) in
    let a = go_maybe kinds.Setup refl parts.SessionSetup (suc k) is.front is.first n is.first_is kn.0 texts.0 in
    let adds = setup_maybe is.front is.first n a.end k len is.first_is kn.0 a.gives in
    go_parts n ts is.front is.back is.split a
    (go_session_end is.back is.second a.end k (same_count n a.end _ adds ∙ len) is.second_is kn.1 texts.1 (subst (λ (l : List Block). DifferAfter l (end_blocks (suc k) is.second)) (sym adds.blocks) new.1))

session_goes : (c : Bool) (v : List ℕ) (n : Noted) (f : SpecFault) → (length n.sessions == 62) ≡ c → length n.sessions + 1 ≤ 62 → (m : Noted) × ((if c then Err f else noting (record n { sessions = n.sessions ++ v ∷ [] })) ≡ Ok m)
session_goes true v n f h le = absurd (let all = eqb-true (length n.sessions) 62 h in omega (arith, all, le))
session_goes false v n f h le = (record n { sessions = n.sessions ++ v ∷ [] }, refl)

go_session : (ts : List Token) (s : SessionText) (n : Noted) (k : ℕ) → length n.sessions ≡ k → session.Is ts s → Every IsKnown ts → k + 1 ≤ 62 → Each TextFits (session_blocks (suc k) s) → DifferAfter n.blocks (session_blocks (suc k) s) → Goes n ts
unfolding session
go_session ts s n k len is known few e d =
    let kn = known_parts ts is.front is.back is.split known in
    let p = go_word kinds.Session is.front is.first n refl is.first_is in
    let w = after_session is.front is.first n p.end is.first_is p.gives in
    let b = is.second_is in
    let inner = known_parts is.back b.front b.back b.split kn.1 in
    let value : s ≡ session_of b.first b.second = is.value_is ∙ b.value_is in
    let count : length p.end.sessions ≡ length n.sessions = same_count n p.end [] w.adds in
    let q = go_name b.front b.first p.end b.first_is inner.0 (λ at.
    let g = session_goes (length p.end.sessions == 62) b.first p.end (faults.Limit at limits.Sessions) refl (omega (arith, count, len, few)) in (g.0, ap (λ (o : Option Word). note_name o b.first at p.end) w.word ∙ g.1)) in
    let named = after_name b.front b.first p.end q.end b.first_is inner.0 q.gives in
    let given : note_session b.first named.at p.end ≡ Ok q.end = ap (λ (o : Option Word). note_name o b.first named.at p.end) (sym w.word) ∙ named.gives in
    let a : Adds p.end q.end (b.first ∷ []) [] = session_by (length p.end.sessions == 62) b.first p.end q.end _ refl given in
    let both : Adds n q.end (b.first ∷ []) [] = adds_both n p.end q.end [] (b.first ∷ []) [] [] w.adds a in
    let one : length q.end.sessions ≡ suc k = one_session n q.end b.first [] both ∙ ap suc len in
    let blocks : n.blocks ≡ q.end.blocks = sym (both.blocks ∙ append-nil n.blocks) in
    let texts = subst (λ (x : SessionText). Each TextFits (session_blocks (suc k) x)) value e in
    let new = subst (λ (l : List Block). DifferAfter l (session_blocks (suc k) (session_of b.first b.second))) blocks (subst (λ (x : SessionText). DifferAfter n.blocks (session_blocks (suc k) x)) value d) in
    go_parts n ts is.front is.back is.split p
    (go_parts p.end is.back b.front b.back b.split q (go_session_parts b.back b.second q.end k b.first one b.second_is inner.1 texts new))

go_sessions : (ts : List Token) (ss : List SessionText) (n : Noted) (k : ℕ) → length n.sessions ≡ k → IsMany session.Is ts ss → Every IsKnown ts → k + length ss ≤ 62 → Each TextFits (blocks_from (suc k) ss) → DifferAfter n.blocks (blocks_from (suc k) ss) → Goes n ts
go_sessions _ _ n k len none known few e d = go_nothing n
go_sessions _ _ n k len (one_more ts front back v vs split is more) known few e d =
    let kn = known_parts ts front back split known in
    let texts = each_split TextFits (session_blocks (suc k) v) (blocks_from (suc k + 1) vs) e in
    let new = differ_split n.blocks (session_blocks (suc k) v) (blocks_from (suc k + 1) vs) d in
    let first = go_session front v n k len is kn.0 (omega (arith, few)) texts.0 new.0 in
    let a : Adds n first.end (v.name ∷ []) (session_blocks (suc k) v) = subst (λ (j : ℕ). Adds n first.end (v.name ∷ []) (session_blocks (suc j) v)) len (session_adds front v n first.end is kn.0 first.gives) in
    let one : length first.end.sessions ≡ suc k = one_session n first.end v.name (session_blocks (suc k) v) a ∙ ap suc len in
    let next : suc k + 1 ≡ suc (suc k) = omega arith in
    go_parts n ts front back split first
    (go_sessions back vs first.end (suc k) one more kn.1 (omega (arith, few)) (subst (λ (j : ℕ). Each TextFits (blocks_from j vs)) next texts.1)
    (subst (λ (j : ℕ). DifferAfter first.end.blocks (blocks_from j vs)) next (subst (λ (l : List Block). DifferAfter l (blocks_from (suc k + 1) vs)) (sym a.blocks) new.1)))

go_sessions_all : (ts : List Token) (ss : List SessionText) (n : Noted) → length n.sessions ≡ 0 → sessions.Is ts ss → Every IsKnown ts → length ss ≤ 62 → Each TextFits (blocks_from 1 ss) → DifferAfter n.blocks (blocks_from 1 ss) → Goes n ts
unfolding sessions
go_sessions_all ts ss n len is known few e d =
    let value : ss ≡ is.first ∷ is.second = is.value_is in
    let size : length ss ≡ length (is.first ∷ is.second) = ap length value in
    go_sessions ts (is.first ∷ is.second) n 0 len (one_more ts is.front is.back is.first is.second is.split is.first_is is.second_is) known (omega (arith, few, size))
    (subst (λ (x : List SessionText). Each TextFits (blocks_from 1 x)) value e) (subst (λ (x : List SessionText). DifferAfter n.blocks (blocks_from 1 x)) value d)

-- ---- permutations

permutation_goes : (c d : Bool) (at : ℕ) (n : Noted) → (length (all_permutations n) == 1000) ≡ c → nat_lt 1000000 (n.work + base_work n.blocks) ≡ d → length (all_permutations n) + 1 ≤ 1000 → n.work + base_work n.blocks ≤ 1000000
    → (m : Noted) × ((if c then Err (faults.Limit at limits.Permutations) else (if d then Err (faults.Limit at limits.Work) else noting (record n { word = Some words.Permutation; at = at; permutations = all_permutations n; current = Some []; work = n.work + base_work n.blocks }))) ≡ Ok m)
permutation_goes true d at n h i few within = absurd (let all = eqb-true (length (all_permutations n)) 1000 h in omega (arith, all, few))
permutation_goes false true at n h i few within = absurd (let big = ltb-true 1000000 (n.work + base_work n.blocks) i in omega (arith, big, within))
permutation_goes false false at n h i few within = (record n { word = Some words.Permutation; at = at; permutations = all_permutations n; current = Some []; work = n.work + base_work n.blocks }, refl)

permutation_word_goes : (l : Lexeme) (at : ℕ) (n : Noted) → among (number (kind l)) (4 ∷ []) ≡ true → length (all_permutations n) + 1 ≤ 1000 → n.work + base_work n.blocks ≤ 1000000 → (m : Noted) × (note_lexeme l at n ≡ Ok m)
permutation_word_goes (lexemes.Word words.Setup) at n e few within = absurd (clash e refl)
permutation_word_goes (lexemes.Word words.Teardown) at n e few within = absurd (clash e refl)
permutation_word_goes (lexemes.Word words.Session) at n e few within = absurd (clash e refl)
permutation_word_goes (lexemes.Word words.Step) at n e few within = absurd (clash e refl)
permutation_word_goes (lexemes.Word words.Permutation) at n e few within = permutation_goes (length (all_permutations n) == 1000) (nat_lt 1000000 (n.work + base_work n.blocks)) at n refl refl few within
permutation_word_goes (lexemes.Name x) at n e few within = absurd (clash e refl)
permutation_word_goes (lexemes.Block x) at n e few within = absurd (clash e refl)
permutation_word_goes lexemes.OpenName at n e few within = absurd (clash e refl)
permutation_word_goes lexemes.OpenBlock at n e few within = absurd (clash e refl)
permutation_word_goes lexemes.Unclosed at n e few within = absurd (clash e refl)
permutation_word_goes lexemes.Paren at n e few within = absurd (clash e refl)
permutation_word_goes lexemes.Stray at n e few within = absurd (clash e refl)

found_goes : (c d : Bool) (found : ℕ) (n : Noted) (f g : SpecFault) → nat_lt 1000000 (n.work + work_at n.blocks found) ≡ c → (length (steps_in n.current) == 1000) ≡ d → n.work + work_at n.blocks found ≤ 1000000 → length (steps_in n.current) + 1 ≤ 1000
    → (m : Noted) × ((if c then Err f else (if d then Err g else noting (with_step n found))) ≡ Ok m)
found_goes true d found n f g h i within few = absurd (let big = ltb-true 1000000 (n.work + work_at n.blocks found) h in omega (arith, big, within))
found_goes false true found n f g h i within few = absurd (let all = eqb-true (length (steps_in n.current)) 1000 i in omega (arith, all, few))
found_goes false false found n f g h i within few = (with_step n found, refl)

named_goes : (o : Option ℕ) (at : ℕ) (n : Noted) → is_some o ≡ true → n.work + work_at n.blocks (number_or o) ≤ 1000000 → length (steps_in n.current) + 1 ≤ 1000 → (m : Noted) × (note_named o at n ≡ Ok m)
named_goes None at n e within few = absurd (clash e refl)
named_goes (Some found) at n e within few =
    found_goes (nat_lt 1000000 (n.work + work_at n.blocks found)) (length (steps_in n.current) == 1000) found n (faults.Limit n.at limits.Work) (faults.Limit at limits.Steps) refl refl within few

go_names : (ts : List Token) (vs : List (List ℕ)) (k n : Noted) (names : List (List ℕ)) → InPermutation k n names → IsMany name.Is ts vs → Every IsKnown ts
    → Each (IsStepName k.blocks) vs → length names + length vs ≤ 1000 → n.work + named_work k.blocks vs ≤ 1000000 → Goes n ts
go_names _ _ k n names h none known e few within = go_nothing n
go_names _ _ k n names h (one_more ts front back v vs split is more) known e few within =
    let kn = known_parts ts front back split known in
    let count : length (steps_in n.current) ≡ length names = ap (λ (p : Option (List ℕ)). length (steps_in p)) h.current ∙ numbers_size k.blocks names in
    let some : is_some (number_of v n.blocks) ≡ true = ap (λ (bs : List Block). is_some (number_of v bs)) h.blocks ∙ e.0 in
    let own : work_at n.blocks (number_or (number_of v n.blocks)) ≡ work_at k.blocks (number_in k.blocks v) = ap (λ (bs : List Block). work_at bs (number_or (number_of v bs))) h.blocks in
    let first = go_name front v n is kn.0 (λ at.
    let g = named_goes (number_of v n.blocks) at n some (omega (arith, within, own)) (omega (arith, count, few)) in (g.0, ap (λ (o : Option Word). note_name o v at n) h.word ∙ g.1)) in
    let next = name_in_permutation front v k n first.end names h is kn.0 first.gives in
    let before = h.work in
    let after = next.work in
    go_parts n ts front back split first
    (go_names back vs k first.end (names ++ v ∷ []) next more kn.1 e.1 (omega (arith, few, length-append names (v ∷ []))) (omega (arith, within, before, after, named_more k.blocks names v)))

go_permutation : (ts : List Token) (vs : List (List ℕ)) (n : Noted) → permutation.Is ts vs → Every IsKnown ts → Each (IsStepName n.blocks) vs → length vs ≤ 1000 → length (all_permutations n) + 1 ≤ 1000
    → n.work + (base_work n.blocks + named_work n.blocks vs) ≤ 1000000 → Goes n ts
unfolding permutation
go_permutation ts vs n is known e few room within =
    let kn = known_parts ts is.front is.back is.split known in
    let t = is.first_is.token in
    let g = permutation_word_goes t.lexeme t.start n is.first_is.kind_is room (omega (arith, within)) in
    let p = go_alone n g.0 is.front t is.first_is.alone g.1 in
    let w = on_permutation t.lexeme t.start n p.end is.first_is.kind_is (alone n p.end is.front t is.first_is.alone p.gives) in
    let b = is.second_is in
    let all : IsMany name.Is is.back (b.first ∷ b.second) = one_more is.back b.front b.back b.first b.second b.split b.first_is b.second_is in
    let value : vs ≡ b.first ∷ b.second = is.value_is ∙ b.value_is in
    let size : length vs ≡ length (b.first ∷ b.second) = ap length value in
    let work : named_work n.blocks vs ≡ named_work n.blocks (b.first ∷ b.second) = ap (λ (x : List (List ℕ)). named_work n.blocks x) value in
    let start = w.work in
    go_parts n ts is.front is.back is.split p
    (go_names is.back (b.first ∷ b.second) n p.end [] w all kn.1 (subst (λ (x : List (List ℕ)). Each (IsStepName n.blocks) x) value e) (omega (arith, few, size)) (omega (arith, within, work, start)))

go_permutations : (ts : List Token) (vs : List (List (List ℕ))) (n : Noted) → IsMany permutation.Is ts vs → Every IsKnown ts → Each (λ names. Each (IsStepName n.blocks) names) vs → Each (λ names. length names ≤ 1000) vs
    → length (all_permutations n) + length vs ≤ 1000 → n.work + all_work n.blocks vs ≤ 1000000 → Goes n ts
go_permutations _ _ n none known e few room within = go_nothing n
go_permutations _ _ n (one_more ts front back v vs split is more) known e few room within =
    let kn = known_parts ts front back split known in
    let first = go_permutation front v n is kn.0 e.0 few.0 (omega (arith, room)) (omega (arith, within)) in
    let one = permuted n first.end v (permutation_adds front v n first.end is kn.0 first.gives) in
    let spent = one.work in
    let blocks : n.blocks ≡ first.end.blocks = sym one.blocks in
    let size : length (all_permutations first.end) ≡ length (all_permutations n) + 1 = ap length one.permutations ∙ length-append (all_permutations n) (numbers n.blocks v ∷ []) in
    let more_work : all_work first.end.blocks vs ≡ all_work n.blocks vs = ap (λ (bs : List Block). all_work bs vs) one.blocks in
    go_parts n ts front back split first
    (go_permutations back vs first.end more kn.1 (subst (λ (bs : List Block). Each (λ (names : List (List ℕ)). Each (IsStepName bs) names) vs) blocks e.1) few.1 (omega (arith, room, size)) (omega (arith, within, spent, more_work)))

-- ---- a file

go_file : (ts : List Token) (f : File) → file.Is ts f → Every IsKnown ts → Keeps most f → Goes nothing_noted ts
unfolding file late bodies
go_file ts f is known keeps =
    let k = known_parts ts is.front is.back is.split known in
    let l = is.second_is in
    let kl = known_parts is.back l.front l.back l.split k.1 in
    let b = l.second_is in
    let kb = known_parts l.back b.front b.back b.split kl.1 in
    let value : f ≡ record { setups = is.first; teardown = l.first; sessions = b.first; permutations = b.second } =
    is.value_is ∙ ap (λ (x : Option (List ℕ) × (List SessionText × List (List (List ℕ)))). file_of is.first x) l.value_is
    ∙ ap (λ (x : List SessionText × List (List (List ℕ))). file_of is.first (l.first, x)) b.value_is in
    let kept = subst (λ (x : File). Keeps most x) value keeps in
    let texts = each_split TextFits (map setup_block is.first) (one_block parts.Teardown 0 l.first ++ blocks_from 1 b.first) kept.texts in
    let late_texts = each_split TextFits (one_block parts.Teardown 0 l.first) (blocks_from 1 b.first) texts.1 in
    let new = differ_split [] (map setup_block is.first) (one_block parts.Teardown 0 l.first ++ blocks_from 1 b.first) kept.differ in
    let late_new = differ_split (map setup_block is.first) (one_block parts.Teardown 0 l.first) (blocks_from 1 b.first) new.1 in
    let p = go_setups is.front is.first nothing_noted is.first_is k.0 texts.0 in
    let setups = main_setups is.front is.first nothing_noted p.end refl is.first_is k.0 p.gives in
    let q = go_maybe kinds.Teardown refl parts.Teardown 0 l.front l.first p.end l.first_is kl.0 late_texts.0 in
    let down = main_teardown l.front l.first p.end q.end (same_count nothing_noted p.end _ setups) l.first_is kl.0 q.gives in
    let none_yet : length q.end.sessions ≡ 0 = same_count p.end q.end _ down ∙ same_count nothing_noted p.end _ setups in
    let blocks : map setup_block is.first ++ one_block parts.Teardown 0 l.first ≡ q.end.blocks = sym (down.blocks ∙ ap (λ (x : List Block). x ++ one_block parts.Teardown 0 l.first) setups.blocks) in
    let r = go_sessions_all b.front b.first q.end none_yet b.first_is kb.0 kept.sessions late_texts.1 (subst (λ (x : List Block). DifferAfter x (blocks_from 1 b.first)) blocks late_new.1) in
    let sessions = sessions_add b.front b.first q.end r.end none_yet b.first_is kb.0 r.gives in
    let all : Adds nothing_noted r.end (map (λ s. s.name) b.first) (map setup_block is.first ++ (one_block parts.Teardown 0 l.first ++ blocks_from 1 b.first)) =
    adds_both nothing_noted p.end r.end [] _ _ _ setups (adds_both p.end q.end r.end [] _ _ _ down sessions) in
    let same : map setup_block is.first ++ (one_block parts.Teardown 0 l.first ++ blocks_from 1 b.first) ≡ r.end.blocks = sym all.blocks in
    let none_work : r.end.work ≡ 0 = all.work in
    let none_size : length (all_permutations r.end) ≡ 0 = ap length all.permutations in
    let work : all_work r.end.blocks b.second ≡ all_work (map setup_block is.first ++ (one_block parts.Teardown 0 l.first ++ blocks_from 1 b.first)) b.second = ap (λ (x : List Block). all_work x b.second) all.blocks in
    let within = kept.work in
    let few = kept.permutations in
    let s = go_permutations b.back b.second r.end b.second_is kb.1 (subst (λ (x : List Block). Each (λ (names : List (List ℕ)). Each (IsStepName x) names) b.second) same kept.named) kept.steps
    (omega (arith, few, none_size)) (omega (arith, within, none_work, work)) in
    go_parts nothing_noted ts is.front is.back is.split p (go_parts p.end is.back l.front l.back l.split q (go_parts q.end l.back b.front b.back b.split r s))

-- Every file that keeps the rules is noted without a fault.
pub file_goes : (ts : List Token) (f : File) → file.Is ts f → Every IsKnown ts → Keeps most f → (n : Noted) × (note_all nothing_noted ts ≡ Ok n)
file_goes ts f is known keeps = let g = go_file ts f is known keeps in (g.end, g.gives)

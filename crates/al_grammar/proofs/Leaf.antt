-- One token.
use Rattle.std.proofs.Common.{◌≡◌, ℕ, Bool, true, false, List, [], ◌∷◌, ◌++◌, length, Option, Some, None, refl, ap, ◌∙◌, subst}
use Rattle.al_grammar.specs.Kinds.{among, starts}
use Rattle.al_grammar.specs.Rules.{read, fault, taken, leaf_reads, IsLeaf, leaf}
use Rattle.al_grammar.specs.Laws.{Took, Stuck, Lawful}

module _ (T A : Type 0) (kind : T → ℕ) (kinds : List ℕ) (of : T → Option A) where
  abbrev TookOne : List T → A → List T → Type 0
  TookOne = Took (IsLeaf kind kinds of) (leaf_reads kind kinds of)

  took_token : (t : T) (ts rest : List T) (v : A) (b : Bool) (o : Option A) → among (kind t) kinds ≡ b → of t ≡ o → taken b o t ts ≡ read v rest → TookOne (t ∷ ts) v rest
  took_token t ts rest v true (Some w) k o e =
      let same : w ≡ v = cc in
      let left : ts ≡ rest = cc in
      record {
        used = t ∷ [];
        split = ap (λ (r : List T). t ∷ r) left;
        is = record { token = t; alone = refl; kind_is = k; value_is = o ∙ ap (λ (u : A). Some u) same };
        alike = λ x r s h. rw (k, o) (ap (λ (u : A). read u (x ∷ s)) same);
      }
  took_token t ts rest v true None k o e = absurd cc
  took_token t ts rest v false o k h e = absurd cc

  takes_one : (ts rest : List T) (v : A) → leaf_reads kind kinds of ts ≡ read v rest → TookOne ts v rest
  takes_one [] rest v e = absurd cc
  takes_one (t ∷ ts) rest v e = took_token t ts rest v (among (kind t) kinds) (of t) refl refl e

  module _ (token : T) (value : A) (kind_is : among (kind token) kinds ≡ true) (value_is : of token ≡ Some value) where
    abbrev StuckOne : List T → ℕ → Type 0
    StuckOne = Stuck (IsLeaf kind kinds of) (leaf_reads kind kinds of)

    some_is : IsLeaf kind kinds of (token ∷ []) value
    some_is = record { token = token; alone = refl; kind_is = kind_is; value_is = value_is }

    stuck_here : (t : T) (ts : List T) (n : ℕ) → n ≡ length (t ∷ ts) → ((s : List T) → taken (among (kind t) kinds) (of t) t s ≡ fault (length (t ∷ s))) → StuckOne (t ∷ ts) n
    stuck_here t ts n e all = record {
      used = [];
      rest = t ∷ ts;
      split = refl;
      place = e;
      more = token ∷ [];
      value = value;
      is = some_is;
      alike = λ x r s h. let same : t ≡ x = cc in subst (λ (y : T). leaf_reads kind kinds of (y ∷ s) ≡ fault (length (y ∷ s))) same (all s);
    }

    stuck_token : (t : T) (ts : List T) (n : ℕ) (b : Bool) (o : Option A) → among (kind t) kinds ≡ b → of t ≡ o → taken b o t ts ≡ fault n → StuckOne (t ∷ ts) n
    stuck_token t ts n true (Some w) k o e = absurd cc
    stuck_token t ts n true None k o e = stuck_here t ts n (cc) (λ s. rw (k, o) refl)
    stuck_token t ts n false o k h e = stuck_here t ts n (cc) (λ s. rw k refl)

    stops_one : (ts : List T) (n : ℕ) → leaf_reads kind kinds of ts ≡ fault n → StuckOne ts n
    stops_one [] n e = record {
      used = [];
      rest = [];
      split = refl;
      place = cc;
      more = token ∷ [];
      value = value;
      is = some_is;
      alike = λ x r s h. absurd cc;
    }
    stops_one (t ∷ ts) n e = stuck_token t ts n (among (kind t) kinds) (of t) refl refl e

    pub lawful_leaf : Lawful kind (leaf kind kinds of)
    lawful_leaf = record {
      takes = takes_one;
      stops = stops_one;
      again = λ text rest v is after. again_one text rest v is;
      begins = λ text v is. begins_one text v is;
      some_text = token ∷ [];
      some_value = value;
      some = some_is;
    }
      where
        again_one : (text rest : List T) (v : A) → IsLeaf kind kinds of text v → leaf_reads kind kinds of (text ++ rest) ≡ read v rest
        again_one text rest v is = rw (is.alone, is.kind_is, is.value_is) refl

        begins_one : (text : List T) (v : A) → IsLeaf kind kinds of text v → starts kind false kinds text ≡ true
        begins_one text v is = rw is.alone is.kind_is

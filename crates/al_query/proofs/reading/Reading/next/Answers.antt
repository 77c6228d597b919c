use Rattle.std.proofs.Common.{◌≡◌, ℕ, ◌<◌, ◌≤◌, length, refl, ap, ◌∙◌, subst, arith}
use Rattle.al_query.specs.Progress.{Progress, piece_end}
use Rattle.al_query.proofs.Pieces.{read-on, read-whole, piece-ahead, piece-most, done-place, done-all, same_Ok}
use Rattle.al_query.proofs.reading.Reading.next.Goals as goal

abbrev place_of : Progress → ℕ
place_of r = r.place

pub loop-self-preserved : goal.loop-self-preserved
loop-self-preserved g c =
    let i = c.loop-self.invariant in
    let stop : c.piece_end-stop.result ≡ piece_end c.args.self.now.place c.args.end c.args.up_to = c.piece_end-stop.ensures ∙ ap (λ (n : ℕ). piece_end n c.args.end c.args.up_to) (ap place_of c.self.view_is) in
    let less : c.loop-self.self.place < c.piece_end-stop.result = subst (λ (n : ℕ). n < c.piece_end-stop.result) (ap place_of c.self-in-loop-self.view_is) c.loop-self-test.true in
    let ahead : c.loop-self.self.place < c.args.end = piece-ahead c.args.self.now.place c.args.end c.args.up_to c.loop-self.self.place i.1 (subst (λ (n : ℕ). c.loop-self.self.place < n) stop less) in
    let on = read-on c.args.heap.now c.args.xacts.now.transactions c.args.self.now c.loop-self.self c.read_one.new.self i.0 i.1 (omega (arith, ahead, c.requires)) c.in_ok-read_one.ensures.ok in
    (on.0, omega (arith, on.1, i.1), omega (arith, on.1, less), omega (arith, on.1, c.read_one.ensures.counted, i.3))

pub returns-in_err-read_one-clause-whole : goal.returns-in_err-read_one-clause-whole
returns-in_err-read_one-clause-whole g c = λ read.
    let i = c.loop-self.invariant in
    let stop : c.piece_end-stop.result ≡ piece_end c.args.self.now.place c.args.end c.args.up_to = c.piece_end-stop.ensures ∙ ap (λ (n : ℕ). piece_end n c.args.end c.args.up_to) (ap place_of c.self.view_is) in
    let most : piece_end c.args.self.now.place c.args.end c.args.up_to ≤ length c.args.heap.now = piece-most c.args.self.now.place c.args.end c.args.up_to (length c.args.heap.now) read.within c.requires in
    read-whole c.args.heap.now c.args.xacts.now.transactions c.args.self.now c.read_one.new.self c.loop-self.self.place (c.in_err-read_one.ensures.err ∙ i.0) i.1 (omega (arith, i.2, stop, most)) read

pub returns-clause-whole : goal.returns-clause-whole
returns-clause-whole g c = λ read.
    let i = c.loop-self.invariant in
    let stop : c.piece_end-stop.result ≡ piece_end c.args.self.now.place c.args.end c.args.up_to = c.piece_end-stop.ensures ∙ ap (λ (n : ℕ). piece_end n c.args.end c.args.up_to) (ap place_of c.self.view_is) in
    let most : piece_end c.args.self.now.place c.args.end c.args.up_to ≤ length c.args.heap.now = piece-most c.args.self.now.place c.args.end c.args.up_to (length c.args.heap.now) read.within c.requires in
    read-whole c.args.heap.now c.args.xacts.now.transactions c.args.self.now c.loop-self.self c.loop-self.self.place i.0 i.1 (omega (arith, i.2, stop, most)) read

pub returns-clause-done : goal.returns-clause-done
returns-clause-done g c = λ read h done.
    let i = c.loop-self.invariant in
    let stop : c.piece_end-stop.result ≡ piece_end c.args.self.now.place c.args.end c.args.up_to = c.piece_end-stop.ensures ∙ ap (λ (n : ℕ). piece_end n c.args.end c.args.up_to) (ap place_of c.self.view_is) in
    let most : piece_end c.args.self.now.place c.args.end c.args.up_to ≤ c.args.end = piece-most c.args.self.now.place c.args.end c.args.up_to c.args.end h (omega arith) in
    let over : c.args.end ≤ c.loop-self.self.place = subst (λ (n : ℕ). c.args.end ≤ n) (ap place_of c.self-2.view_is) (done-place _ c.args.end c.told.result c.told.ensures (same_Ok _ _ _ _ refl refl done)) in
    done-all c.args.heap.now c.args.xacts.now.transactions c.args.self.now c.loop-self.self c.args.end i.0 i.1 (omega (arith, i.2, stop, most, over)) c.requires read

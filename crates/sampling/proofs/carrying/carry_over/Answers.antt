-- `carrying::carry_over` meets its contract: the unfinished bytes are read from their lane, and then cleared there.
use mathlib.Core.Path.{◌≡◌, refl, sym, ap, ◌∙◌}
use mathlib.Core.List.{List, [], ◌∷◌, ◌++◌}
use Prim.Native.Nat.{ℕ, ◌≤◌}
use native.Mathlib.Omega.{arith}
use lib.ListN.{length, take, drop, replicate, length-replicate}
use lib.Seq.{length-take-le}
use Rattle.counting.specs.Buffer.{put}
use Rattle.counting.specs.Sample.{list_of}
use Rattle.counting.specs.Recording.{stride}
use Rattle.counting.proofs.Buffers.{put_first}
use Rattle.counting.proofs.Counts.{length_list}
use Rattle.sampling.specs.Carrying.{stored_byte, whole_of, left_of, left_bytes, Carried, as_carried, carried_of, carried_words}
use Rattle.sampling.specs.Earlier.{earlier_refusal}
use Rattle.sampling.specs.Sampler.{no_sampler}
use Rattle.sampling.proofs.Lifting.{Lifts, lifts}
use Rattle.sampling.proofs.Refused.{refused, passed_on}
use Rattle.sampling.proofs.carrying.carry_over.Goals.{After-filled-unfinished, In_ok-earlier_refusal}
use Rattle.sampling.proofs.carrying.carry_over.Goals as goal

-- ---- past the refusal

none : (e : In_ok-earlier_refusal) → earlier_refusal e.args.earlier (length e.args.words.now) ≡ 0
none e = sym e.in_ok-earlier_refusal.ensures

has : (e : In_ok-earlier_refusal) → Lifts e.args.earlier (length e.args.words.now)
has e = lifts e.args.earlier (length e.args.words.now) (none e)

abbrev past : After-filled-unfinished → In_ok-earlier_refusal
past d = (goal.at.slice_bounds-unfinished-end d).In_ok-earlier_refusal

-- there is room for the bytes
long : (d : After-filled-unfinished) → length d.filled-unfinished.result ≡ 2048
long d = ap length d.filled-unfinished.ensures ∙ length-replicate {A = ℕ} 2048 0

room : (d : After-filled-unfinished) → left_of d.args.earlier ≤ length d.filled-unfinished.result
room d = let h = has (past d) in omega (arith, long d, h.few, h.at_most)

part_long : (d : After-filled-unfinished) → length (take (left_of d.args.earlier) d.filled-unfinished.result) ≡ left_of d.args.earlier
part_long d = length-take-le (left_of d.args.earlier) d.filled-unfinished.result (room d)

pub returns-in_err-earlier_refusal : goal.returns-in_err-earlier_refusal
unfolding carried_of carried_words
returns-in_err-earlier_refusal c =
    let is = c.in_err-earlier_refusal.ensures in
    let not = refused _ _ is in
    let refused_with : ℕ → Carried = λ n. record { refusal = n; sampler = no_sampler } in
    record {
      value = simp not (ap as_carried (passed_on c.from_residual.result _ c.from_residual.ensures.1) ∙ ap refused_with is);
      words_after = simp not refl;
    }

pub nonzero_div-blocks-2 : goal.nonzero_div-blocks-2
nonzero_div-blocks-2 c = omega (arith, (has (goal.at.nonzero_div-blocks-2 c).In_ok-earlier_refusal).size)

pub nonzero_rem-left : goal.nonzero_rem-left
nonzero_rem-left c = omega (arith, (has (goal.at.nonzero_rem-left c).In_ok-earlier_refusal).size)

pub nonzero_div-lane : goal.nonzero_div-lane
nonzero_div-lane c = omega (arith, (has (goal.at.nonzero_div-lane c).In_ok-earlier_refusal).size)

pub slice_bounds-unfinished-end : goal.slice_bounds-unfinished-end
slice_bounds-unfinished-end c = room c

pub slice_bounds-read-end : goal.slice_bounds-read-end
slice_bounds-read-end c = sym (part_long (goal.at.slice_bounds-read-end c).After-filled-unfinished)

pub read-requires : goal.read-requires
read-requires c =
    let e = past (goal.at.read-requires c).After-filled-unfinished in
    let a = c.args in
    rw (part_long (goal.at.read-requires c).After-filled-unfinished) (has e).inside

pub overflow_mul-left : goal.overflow_mul-left
overflow_mul-left c = let h = has (past (goal.at.overflow_mul-left c).After-filled-unfinished) in omega (arith, h.few, h.at_most)

pub clear-requires : goal.clear-requires
clear-requires c = (has (past (goal.at.clear-requires c).After-filled-unfinished)).inside

pub returns : goal.returns
unfolding carried_of carried_words left_bytes
returns c =
    let e = past (goal.at.returns c).After-filled-unfinished in
    let a = c.args in
    let s = a.earlier in
    let left = left_of s in
    let none_yet : List ℕ = replicate 2048 0 in
    let f = stored_byte s.low_first (stride s.block_size (length a.words.now)) a.words.now (whole_of s) in
    let read : c.read.new.to ≡ list_of left f = c.read.ensures ∙ ap (λ (m : ℕ). list_of m f) (part_long (goal.at.returns c).After-filled-unfinished) in
    let bytes : c.read.new.to ++ drop left c.filled-unfinished.result ≡ put none_yet 0 (list_of left f) =
    (λ i. read i ++ drop left (c.filled-unfinished.ensures i))
    ∙ sym (put_first none_yet (list_of left f) ∙ ap (λ (k : ℕ). list_of left f ++ drop k none_yet) (length_list left f)) in
    record {
      value = simp (none e) (λ i. record {
        refusal = 0;
        sampler = record {
          head = record {
            block_size = s.block_size;
            words = s.words;
            blocks = whole_of s;
            low_first = s.low_first;
            lengths = left ∷ 0 ∷ 0 ∷ 0 ∷ [];
          };
          unfinished = bytes i;
        };
      });
      words_after = simp (none e) c.clear.ensures;
    }

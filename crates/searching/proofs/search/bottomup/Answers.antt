-- `search::bottomup` meets its contract: past the refusals the winner is found, in whichever way.
use mathlib.Core.Path.{◌≡◌, sym, ap, ◌∙◌}
use native.Mathlib.Omega.{arith}
use lib.ListN.{length}
use Rattle.counting.proofs.Accepted.{valid_facts}
use Rattle.counting.proofs.Reasons.{some_number}
use Rattle.sampling.proofs.Refused.{passed_on}
use Rattle.searching.specs.Finding.{refused_with, searched_of}
use Rattle.searching.specs.Refusal.{bottomup_refusal}
use Rattle.searching.proofs.Refusing.{BottomupFree, bottomup_free, searchable, search_refused, search_found, store_refused, store_left}
use Rattle.searching.proofs.search.bottomup.Goals.{In_ok-bottomup_refusal}
use Rattle.searching.proofs.search.bottomup.Goals as goal

-- ---- past the refusals

none : (e : In_ok-bottomup_refusal) → let a = e.args in
    bottomup_refusal a.sampler (length a.words.now) a.first a.end a.k (length a.bins.now) (length a.order.now) ≡ 0
none e = sym e.in_ok-bottomup_refusal.ensures

free : (e : In_ok-bottomup_refusal) → let a = e.args in
    BottomupFree a.sampler (length a.words.now) a.first a.end a.k (length a.bins.now) (length a.order.now)
free e =
    let a = e.args in
    bottomup_free a.sampler (length a.words.now) a.first a.end a.k (length a.bins.now) (length a.order.now) (none e)

pub returns-in_err-bottomup_refusal : goal.returns-in_err-bottomup_refusal
returns-in_err-bottomup_refusal c =
    let a = c.args in
    let is = c.in_err-bottomup_refusal.ensures in
    record {
      search = search_refused _ _ _ _ _ a.k a.bins.now a.order.now _ (λ z. some_number _ (is ∙ z))
          (ap searched_of (passed_on c.from_residual.result _ c.from_residual.ensures.1) ∙ ap refused_with is);
      stored = store_refused _ _ _ _ _ a.k a.store.now (λ z. some_number _ (is ∙ z));
    }

pub stretch_of-stretch-requires : goal.stretch_of-stretch-requires
stretch_of-stretch-requires c = omega (arith, valid_facts _ (free c).search.usable.valid)

pub invariant_of-sample : goal.invariant_of-sample
invariant_of-sample c =
    let x = c.stretch_of-stretch in
    let a = c.args in
    let f = free (goal.at.invariant_of-sample c).In_ok-bottomup_refusal in
    record { searchable = searchable a.sampler (length a.words.now) a.first a.end a.k x.result x.ensures f.search }

pub search_stretch-finding-requires : goal.search_stretch-finding-requires
search_stretch-finding-requires c =
    let f = free (goal.at.search_stretch-finding-requires c).In_ok-bottomup_refusal in
    record { buffer_room = f.room }

pub returns : goal.returns
returns c =
    let x = c.stretch_of-stretch in
    let found = c.search_stretch-finding in
    let a = c.args in
    let none = none (goal.at.returns c).In_ok-bottomup_refusal in
    record {
      search = search_found _ a.sampler a.words.now a.first a.end a.k x.result a.bins.now a.order.now found.result c.marked.result _ _ x.ensures none found.ensures.won c.marked.ensures;
      stored = store_left _ a.sampler a.words.now a.first a.end a.k x.result a.store.now _ x.ensures none found.ensures.store_after;
    }

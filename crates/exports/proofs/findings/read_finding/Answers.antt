-- `findings::read_finding` meets its contract: each field is its number, the division at most the largest of 32 bits.
use mathlib.Core.Path.{◌≡◌, refl, sym, ap, subst, ◌∙◌}
use mathlib.Core.Bool.{false}
use native.Mathlib.Omega.{arith}
use lib.Dec.{eqb}
use lib.Ieee.{fin, binary64, of_bits}
use lib.IntN.{pos}
use lib.ListN.{length, get_or}
use Rattle.counting.specs.Sample.{Below}
use Rattle.subsets.specs.Subsets.{padded}
use Rattle.exports.proofs.Lending.{part_is, bits_lent, bits_read}
use Rattle.exports.proofs.findings.read_finding.Goals as goal

no_score : of_bits binary64 0 ≡ fin false 0 (pos 0)
unfolding of_bits
no_score = refl

pub read_bits-bits-requires : goal.read_bits-bits-requires
read_bits-bits-requires c =
    let l = c.args.numbers.now in
    let is = part_is l (get_or l 1 0) in
    (omega (arith, ap length is, bits_lent l c.requires.width c.requires.room, c.requires.width), subst (Below 4294967296) (sym is) c.requires.small)

pub returns : goal.returns
returns c =
    let l = c.args.numbers.now in
    let bits = c.read_bits-bits.ensures ∙ ap padded (part_is l (get_or l 1 0)) ∙ bits_read l c.requires.width in
    λ i. record {
      block_size = get_or l 0 0;
      width = get_or l 1 0;
      bits = bits i;
      division = c.narrow.ensures i;
      z = no_score i;
      low_first = eqb (get_or l 24 0) 1;
    }

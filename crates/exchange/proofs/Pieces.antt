-- Laws of the text's pieces: how long they are, and that they make the text.
use mathlib.Core.Path.{◌≡◌, refl, sym, ap, subst, ◌∙◌}
use mathlib.Core.Bool.{Bool, true, false}
use mathlib.Core.List.{List, ◌++◌, append_assoc}
use Prim.Native.Nat.{ℕ, ◌+◌, ◌≤◌}
use native.Mathlib.Nat.{zero-add}
use native.Mathlib.Omega.{arith}
use lib.ListN.{length, length-append}
use Rattle.exchange.specs.Grammar.{Exchanged, ascii}
use Rattle.counting.specs.Buffer.{put}
use Rattle.exchange.specs.Writer.{decimal, listed, truth, text_of, arrays_text, numbers_text, low_text}
use Rattle.exchange.proofs.Figures.{Stands, stands_then}

pub length_arrays : (bits order : List ℕ) → length (arrays_text bits order) ≡ 29 + length (listed bits) + length (listed order)
unfolding arrays_text
length_arrays bits order =
    let a = ascii "{\"bits\":[" in
    let b = ascii "],\"sorted_indices\":[" in
    omega (arith, length-append (a ++ listed bits ++ b) (listed order), length-append (a ++ listed bits) b, length-append a (listed bits))

-- the last member and the brace, behind what stands before them
low_last : (x e f g : List ℕ) → x ++ e ++ f ++ g ≡ x ++ (e ++ f ++ g)
low_last x e f g = simp append_assoc

pub number_pieces : (division block : ℕ) (low : Bool)
    → numbers_text division block low ≡ (ascii "],\"best_division\":" ++ decimal division ++ ascii ",\"block_size\":" ++ decimal block) ++ low_text low
unfolding numbers_text low_text
number_pieces division block low =
    low_last (ascii "],\"best_division\":" ++ decimal division ++ ascii ",\"block_size\":" ++ decimal block) (ascii ",\"low_first\":") (truth low) (ascii "}")

pub length_low : (low : Bool) → length (low_text low) ≡ 14 + length (truth low)
unfolding low_text
length_low true = refl
length_low false = refl

pub low_true : (low : Bool) → low ≡ true → low_text low ≡ ascii ",\"low_first\":true}"
unfolding low_text
low_true low e = rw e

pub low_false : (low : Bool) → low ≡ false → low_text low ≡ ascii ",\"low_first\":false}"
unfolding low_text
low_false low e = rw e

pub truth_most : (v : Bool) → length (truth v) ≤ 5
truth_most true = omega arith
truth_most false = omega arith

pub length_numbers : (division block : ℕ) (low : Bool) → length (numbers_text division block low) ≡ 46 + length (decimal division) + length (decimal block) + length (truth low)
length_numbers division block low =
    let a = ascii "],\"best_division\":" in
    let b = ascii ",\"block_size\":" in
    ap length (number_pieces division block low)
    ∙ length-append (a ++ decimal division ++ b ++ decimal block) (low_text low)
    ∙ omega
    (arith, length_low low, length-append (a ++ decimal division ++ b) (decimal block), length-append (a ++ decimal division) b, length-append a (decimal division))

seven : (x e f g h i j k : List ℕ) → x ++ e ++ f ++ g ++ h ++ i ++ j ++ k ≡ x ++ (e ++ f ++ g ++ h ++ i ++ j ++ k)
seven x e f g h i j k = simp append_assoc

pub text_pieces : (r : Exchanged) → text_of r ≡ arrays_text r.bits r.indices ++ numbers_text r.division r.block r.low_first
unfolding text_of arrays_text numbers_text
text_pieces r =
    seven (ascii "{\"bits\":[" ++ listed r.bits ++ ascii "],\"sorted_indices\":[" ++ listed r.indices) (ascii "],\"best_division\":")
    (decimal r.division) (ascii ",\"block_size\":") (decimal r.block) (ascii ",\"low_first\":") (truth r.low_first) (ascii "}")

pub length_text : (r : Exchanged)
    → length (text_of r) ≡ 75 + length (listed r.bits) + length (listed r.indices) + length (decimal r.division) + length (decimal r.block) + length (truth r.low_first)
length_text r =
    ap length (text_pieces r)
    ∙ length-append (arrays_text r.bits r.indices) (numbers_text r.division r.block r.low_first)
    ∙ omega (arith, length_arrays r.bits r.indices, length_numbers r.division r.block r.low_first)

-- ---- put one behind the other

module _ (out : List ℕ) (at : ℕ) (s : List ℕ) (a : ℕ) (out₁ : List ℕ) (one : Stands out at s a out₁)
    (t : List ℕ) (b : ℕ) (out₂ : List ℕ) (two : Stands out₁ a t b out₂)
    (u : List ℕ) (c : ℕ) (out₃ : List ℕ) (three : Stands out₂ b u c out₃)
    (v : List ℕ) (d : ℕ) (out₄ : List ℕ) (four : Stands out₃ c v d out₄) (room : c ≤ length out) where
  pub four_stand : Stands out at (s ++ t ++ u ++ v) d out₄
  four_stand =
      let first : a ≤ length out = omega (arith, two.0, three.0) in
      let second : b ≤ length out = omega (arith, three.0) in
      stands_then out at (s ++ t ++ u) v c d out₃ out₄
      (stands_then out at (s ++ t) u b c out₂ out₃ (stands_then out at s t a b out₁ out₂ one two first) three second) four room

pub arrays_stand : (out bits order : List ℕ) (a b c d : ℕ) (out₁ out₂ out₃ out₄ : List ℕ)
    → Stands out 0 (ascii "{\"bits\":[") a out₁ → Stands out₁ a (listed bits) b out₂
    → Stands out₂ b (ascii "],\"sorted_indices\":[") c out₃ → Stands out₃ c (listed order) d out₄
    → c ≤ length out → (d ≡ length (arrays_text bits order)) × (out₄ ≡ put out 0 (arrays_text bits order))
unfolding arrays_text
arrays_stand out bits order a b c d out₁ out₂ out₃ out₄ one two three four room =
    let all = four_stand out 0 (ascii "{\"bits\":[") a out₁ one (listed bits) b out₂ two (ascii "],\"sorted_indices\":[") c out₃ three (listed order) d out₄ four room in
    (all.0 ∙ zero-add _, all.1)

pub low_stands : (out : List ℕ) (at : ℕ) (low : Bool) (s : List ℕ) (to : ℕ) (out' : List ℕ) → low_text low ≡ s → Stands out at s to out' → Stands out at (low_text low) to out'
low_stands out at low s to out' e stands = subst (λ (l : List ℕ). Stands out at l to out') (sym e) stands

pub numbers_stand : (out : List ℕ) (at division block : ℕ) (low : Bool) (a b c d e : ℕ) (out₁ out₂ out₃ out₄ out₅ : List ℕ)
    → Stands out at (ascii "],\"best_division\":") a out₁ → Stands out₁ a (decimal division) b out₂
    → Stands out₂ b (ascii ",\"block_size\":") c out₃ → Stands out₃ c (decimal block) d out₄ → Stands out₄ d (low_text low) e out₅
    → d ≤ length out → Stands out at (numbers_text division block low) e out₅
numbers_stand out at division block low a b c d e out₁ out₂ out₃ out₄ out₅ one two three four last room =
    let before : c ≤ length out = omega (arith, four.0) in
    subst (λ (s : List ℕ). Stands out at s e out₅) (sym (number_pieces division block low))
    (stands_then out at (ascii "],\"best_division\":" ++ decimal division ++ ascii ",\"block_size\":" ++ decimal block) (low_text low) d e out₄ out₅
    (four_stand out at (ascii "],\"best_division\":") a out₁ one (decimal division) b out₂ two (ascii ",\"block_size\":") c out₃ three (decimal block) d out₄ four before)
    last room)

pub text_stands : (out : List ℕ) (r : Exchanged) (a b : ℕ) (out₁ out₂ : List ℕ)
    → (a ≡ length (arrays_text r.bits r.indices)) × (out₁ ≡ put out 0 (arrays_text r.bits r.indices)) → Stands out₁ a (numbers_text r.division r.block r.low_first) b out₂
    → a ≤ length out → (b ≡ length (text_of r)) × (out₂ ≡ put out 0 (text_of r))
text_stands out r a b out₁ out₂ one two room =
    let all = stands_then out 0 (arrays_text r.bits r.indices) (numbers_text r.division r.block r.low_first) a b out₁ out₂ (omega (arith, one.0), one.1) two room in
    (omega (arith, all.0, ap length (text_pieces r)), all.1 ∙ ap (put out 0) (sym (text_pieces r)))

-- The examples, by computation.
use mathlib.Core.Path.{refl}
use Rattle.exchange.specs.Grammar.{is_space, is_digit, is_exp}
use Rattle.exchange.specs.Reader.{
  skip,
  read_exactly,
  read_token,
  read_truth,
  read_digits,
  read_whole,
  skip_digits,
  skip_minus,
  skip_sign,
  skip_fraction,
  skip_exponent,
  skip_number,
  skip_score,
  read_word,
  read_turns,
  read_entry,
  read_array,
  read_name,
  read_key,
  read_value,
  read_member,
  whole,
  read_text,
}
use Rattle.exchange.specs.Writer.{digits_of, decimal, behind, listed, text_of}
use Rattle.exchange.specs.Examples.{TextExamples}

pub text_examples : TextExamples
unfolding is_space is_digit is_exp skip read_exactly read_token read_truth read_digits read_whole skip_digits skip_minus skip_sign skip_fraction skip_exponent skip_number skip_score read_word read_turns read_entry read_array read_name read_key read_value read_member whole read_text digits_of decimal behind listed text_of
text_examples =
    record {
      written = refl;
      spaced = refl;
      empties = refl;
      high = refl;
      lows = refl;
      one = refl;
      capitals = refl;
      missing = refl;
      twice = refl;
      scores = refl;
      unknown = refl;
      escaped = refl;
      zeros = refl;
      signed = refl;
      fraction = refl;
      large = refl;
      point = refl;
      comma = refl;
      behind = refl;
      nothing = refl;
    }

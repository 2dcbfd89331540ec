-- The options of the command line.
use Rattle.std.specs.Prelude.{ℕ, ◌≤◌, ◌^◌, IfSome, Bool, true, false, not, cond, ◌==◌, List, [], ◌∷◌, map, Option, None, Some, option_map, codes}
use Rattle.std.specs.Option.{option_copied}
use Rattle.std.specs.Borrow.{Bor}
use Rattle.mi_model.specs.Image.{IsRegionSize}
use Rattle.mi_commands.specs.declared.options.OptionName.{OptionName}
use Rattle.mi_commands.specs.declared.options.OptionName.TheVariants.{Entry, Size, Turns, Data, Code}
use Rattle.mi_commands.specs.declared.options.Said.{Said as SaidWord}
use Rattle.mi_commands.specs.declared.options.Said.TheVariants.{Positional as SaidPositional, Awaits as SaidAwaits, Gives as SaidGives, Nothing as SaidNothing}
use Rattle.mi_commands.specs.declared.options.Given.{Given as GivenOptions}
use Rattle.mi_commands.specs.declared.options.Reading.{Reading}
use Rattle.mi_commands.specs.Numbers.{behind, number_of, passing, is_size, is_turns}

-- a positional word or a value: it is not empty and does not begin with a dash
abbrev pub is_value : List ℕ → Bool
is_value [] = false
is_value (first ∷ _) = not (first == 45)

-- what a word says that is not an option's value: it is a positional word; an option, whose value is the next word; an
-- option with its value; or none of these
pub data Said : Type 0 where
  Positional : Said
  Awaits : OptionName → Said
  Gives : OptionName → (value : List ℕ) → Said
  Nothing : Said

-- an option's name has nothing behind it, or `=` and the value
abbrev pub option_said : OptionName → (rest : List ℕ) → Said
option_said name [] = Awaits name
option_said name (c ∷ value) = cond (c == 61) (Gives name value) Nothing

-- the first of these that is there
abbrev pub option_or : OptionName → Option (List ℕ) → Said → Said
option_or name None other = other
option_or name (Some rest) other = option_said name rest

abbrev pub said_by : List ℕ → Said
said_by word = cond (is_value word) Positional (
    option_or Entry (behind (codes "--entry") word) (
    option_or Size (behind (codes "--size") word) (
    option_or Turns (behind (codes "--turns") word) (
    option_or Data (behind (codes "--data") word) (
    option_or Code (behind (codes "--code") word) Nothing)))))

-- the positional words
abbrev pub positional_behind : Said → (word : List ℕ) → (Bool → List (List ℕ)) → List (List ℕ)
positional_behind Positional word rest = word ∷ rest false
positional_behind (Awaits name) word rest = rest true
positional_behind (Gives name value) word rest = rest false
positional_behind Nothing word rest = rest false

abbrev pub positional_in : (value_next : Bool) → List (List ℕ) → List (List ℕ)
positional_in value_next [] = []
positional_in true (value ∷ words) = positional_in false words
positional_in false (word ∷ words) = positional_behind (said_by word) word (λ value_next. positional_in value_next words)

-- the options that were given
pub record Given : Type 0 where
  pub entry : Option (List ℕ)
  pub size : Option ℕ
  pub turns : Option ℕ
  pub data_base : Option ℕ
  pub code_base : Option ℕ

-- an option is given once
abbrev pub once : {X : Type 0} → Option X → Option Given → Option Given
once None now = now
once (Some x) now = None

-- an option with its value
abbrev pub with_option : OptionName → (value : List ℕ) → Given → Option Given
with_option Entry value given = once given.entry (Some (record given { entry = Some value }))
with_option Size value given = once given.size (option_map (λ n. record given { size = Some n }) (passing is_size (number_of value)))
with_option Turns value given = once given.turns (option_map (λ n. record given { turns = Some n }) (passing is_turns (number_of value)))
with_option Data value given = once given.data_base (option_map (λ n. record given { data_base = Some n }) (number_of value))
with_option Code value given = once given.code_base (option_map (λ n. record given { code_base = Some n }) (number_of value))

abbrev pub with_value : OptionName → (value : List ℕ) → Given → Option Given
with_value name value given = cond (is_value value) (with_option name value given) None

-- what follows, where nothing was wrong
abbrev pub if_given : Option Given → (Given → Option Given) → Option Given
if_given None rest = None
if_given (Some given) rest = rest given

abbrev pub given_behind : Said → Given → (Option OptionName → Given → Option Given) → Option Given
given_behind Positional given rest = rest None given
given_behind (Awaits name) given rest = rest (Some name) given
given_behind (Gives name value) given rest = if_given (with_value name value given) (λ now. rest None now)
given_behind Nothing given rest = None

-- the positional word, where it is the only one
abbrev pub only_of : List (List ℕ) → Option (List ℕ)
only_of [] = None
only_of (word ∷ []) = Some word
only_of (word ∷ (other ∷ words)) = None

-- the options that these words give, from left to right, or none where a word is wrong
abbrev pub given_in : (awaited : Option OptionName) → List (List ℕ) → Given → Option Given
given_in None [] given = Some given
given_in (Some name) [] given = None
given_in None (word ∷ words) given = given_behind (said_by word) given (λ awaited now. given_in awaited words now)
given_in (Some name) (value ∷ words) given = if_given (with_value name value given) (λ now. given_in None words now)

abbrev pub none_given : Given
none_given = record { entry = None; size = None; turns = None; data_base = None; code_base = None }

-- what the program read, as bytes
abbrev pub said_in_bytes : SaidWord → Said
said_in_bytes SaidPositional = Positional
said_in_bytes (SaidAwaits name) = Awaits name
said_in_bytes (SaidGives name value) = Gives name value.now
said_in_bytes SaidNothing = Nothing

abbrev pub given_in_bytes : GivenOptions → Given
given_in_bytes given = record {
  entry = option_copied given.entry;
  size = given.size;
  turns = given.turns;
  data_base = given.data_base;
  code_base = given.code_base;
}

-- the size and the turns that were given are within their bounds
abbrev pub AreWithin : GivenOptions → Type 0
AreWithin given = IfSome given.size (λ n. IsRegionSize n) × IfSome given.turns (λ n. n ≤ 2 ^ 40)

-- the words behind references
abbrev pub words_of : List (Bor (List ℕ)) → List (List ℕ)
words_of words = map (λ word. word.now) words

-- what the words that are left give, where those before them are read
abbrev pub read_on : Option Reading → (words : List (List ℕ)) → Option Given
read_on None words = None
read_on (Some reading) words = given_in reading.awaited words (given_in_bytes reading.given)

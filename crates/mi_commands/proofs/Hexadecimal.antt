use Rattle.std.proofs.Common.{◌≡◌, ℕ, ◌-◌, ◌^◌, false, [], rules}
use Rattle.std.specs.Fmt.{digits, padded_integral, format_spec, char_count}
use Rattle.mi_commands.specs.Report.{hexadecimal}

-- what `{:016x}` writes
pub as_hexadecimal : (n : ℕ) →
    padded_integral (format_spec 32 0 4 16 (2 ^ 64 - 1)) false [] (digits 16 false n) ≡ hexadecimal n
unfolding padded_integral char_count
as_hexadecimal n = search rules

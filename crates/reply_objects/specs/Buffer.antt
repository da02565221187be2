-- The reply buffer (01, answer 2).
use Rattle.std.specs.Prelude.{ℕ}

-- the smallest buffer that a message is taken with; every reply fits in it. The code's constant is LEAST_BUFFER.
abbrev pub least_buffer : ℕ
least_buffer = 128

-- `four::holds_at` meets its contract: the place's words, one test after another.
use mathlib.Core.Path.{ap}
use Rattle.table.specs.Rules.{same_lsp}
use Rattle.find_connection.proofs.four.holds_at.Goals as goal

pub returns : goal.returns
unfolding same_lsp
returns c =
    let p = c.place_words-p.ensures in
    rw (
      c.is_lsp-lsp.ensures,
      c.is_tunnel-tunnel.ensures,
      c.endpoint_at.ensures,
      ap (λ p. p.taken) p,
      ap (λ p. p.tunnel) p,
      ap (λ p. p.extended) p,
      ap (λ p. p.lsp) p,
    )

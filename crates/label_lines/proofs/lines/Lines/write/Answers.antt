use Rattle.std.proofs.Common.{◌∙◌}
use Rattle.label_lines.specs.Held.{held}
use Rattle.label_lines.proofs.Joined.{joined_lines}
use Rattle.label_lines.proofs.lines.Lines.write.Goals as goal

pub returns : goal.returns
returns c =
    joined_lines (held c.args.self.now) _ _ _ _ _ _ _ c.unwrap.result
    c.new-text.ensures
    c.append_line.ensures.items
    c.append_line-2.ensures.items
    c.append_line-3.ensures.items
    c.append_line-4.ensures.items
    c.append_line-5.ensures.items
    c.append_line-6.ensures.items
    ((rw c.unwrap.ensures at c.into_inner.ensures.ok) ∙ c.append.ensures.items)

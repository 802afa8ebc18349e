use Rattle.std.proofs.Common.{ap, codes, true}
use Rattle.clap.specs.Simple.{app_of_fields}
use Rattle.command_words.proofs.Making.{new_command, set}
use Rattle.client_words.proofs.program.bare_program.Goals as goal

pub returns : goal.returns
returns c =
    let made = new_command (codes "incusctl") _ c.new.ensures.app c.new.ensures.local in
    let binary = set (λ s. record s { no_binary_name = true }) _ _ _ (ap app_of_fields c.no_binary_name.ensures)
    (ap (λ f. f.has_globals) c.no_binary_name.ensures) made in
    let flag = set (λ s. record s { disable_help_flag = true }) _ _ _ (ap app_of_fields c.disable_help_flag.ensures)
    (ap (λ f. f.has_globals) c.disable_help_flag.ensures) binary in
    let command = set (λ s. record s { disable_help_subcommand = true }) _ _ _
    (ap app_of_fields c.disable_help_subcommand.ensures) (ap (λ f. f.has_globals) c.disable_help_subcommand.ensures)
    flag in
    set (λ s. record s { subcommand_required = true }) _ _ _ (ap app_of_fields c.subcommand_required.ensures)
    (ap (λ f. f.has_globals) c.subcommand_required.ensures) command

-- A program with one command more.
use Rattle.clap.specs.Words.{App, with_subcommand}

abbrev pub and : App → App → App
and more program = with_subcommand program more.top
